use Rattle.std.proofs.Common.{rules, ◌≡◌, ℕ, List, [], ◌++◌, length, refl, ap, ◌∙◌}
use Rattle.std.specs.List.{flat_map}
use Rattle.http_edge.specs.Answers.{crlf, status_line, header_line, closing_line, length_line, body_written, spelled}
use Rattle.http_edge.proofs.answer.spell_answer.Goals as goal

-- pieces in a row
row : (o a b c d e f p q r s t u : List ℕ) → o ≡ [] → a ≡ o ++ p → b ≡ a ++ q → c ≡ b ++ r → d ≡ c ++ s → e ≡ d ++ t → f ≡ e ++ u → f ≡ p ++ q ++ r ++ s ++ t ++ u
row o a b c d e f p q r s t u h0 h1 h2 h3 h4 h5 h6 = rw (h6, h5, h4, h3, h2, h1, h0) refl

pub returns : goal.returns
unfolding spelled
returns c =
    let a = c.args.answer.now in
    row c.new-out.result.items c.put_status.new.out.items c.put_headers.new.out.items c.put_closing.new.out.items c.put_length.new.out.items c.put.new.out.items c.put_body.new.out.items
    (status_line a.status) (flat_map header_line a.headers) (closing_line c.args.closing) (length_line a.status (length a.body)) crlf (body_written c.args.head_only a.status a.body)
    (search rules)
    c.in_ok-put_status.ensures
    (c.in_ok-put_headers.ensures ∙ ap (λ l. c.put_status.new.out.items ++ flat_map header_line l) c.as_slice.ensures)
    c.in_ok-put_closing.ensures
    (c.in_ok-put_length.ensures ∙ ap (λ (l : List ℕ). c.put_closing.new.out.items ++ length_line a.status (length l)) c.as_slice-body.ensures)
    c.in_ok-put.ensures
    (c.in_ok-put_body.ensures ∙ ap (λ l. c.put.new.out.items ++ body_written c.args.head_only a.status l) c.as_slice-body.ensures)
