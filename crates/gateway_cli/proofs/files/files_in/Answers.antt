use Rattle.std.proofs.Common.{◌≡◌, true, false, subst}
use Rattle.std.specs.Str.{bytes_eq}
use Rattle.std.proofs.lemmas.Slice.Eq.{bytes_eq-Decides}
use Rattle.gateway_cli.specs.Files.{Holds}
use Rattle.gateway_cli.proofs.Asked.{of_one, of_two}
use Rattle.gateway_cli.proofs.files.files_in.Goals as goal

pub returns-then-eq-clause-read : goal.returns-then-eq-clause-read
returns-then-eq-clause-read g c =
    let read = c.in_ok-first.ensures.read in
    let same : bytes_eq c.args.template.now c.args.body.now ≡ true = cc (c.eq.ensures, c.if-eq.true) in
    of_one (g.O.Outside.files c.args.outside.now) c.args.template.now c.args.body.now read.0 c.in_ok-first.first c.in_ok-second.second
    ((bytes_eq-Decides c.args.template.now c.args.body.now).0 same) read.1 read.2 c.in_ok-second.ensures

pub returns-clause-read : goal.returns-clause-read
returns-clause-read g c =
    let read = c.in_ok-first.ensures.read in
    let after = c.in_ok-second-2.ensures.read in
    let other : bytes_eq c.args.template.now c.args.body.now ≡ false = cc (c.eq.ensures, c.if-eq.false) in
    of_two (g.O.Outside.files c.args.outside.now) c.args.template.now c.args.body.now read.0 after.0 c.in_ok-first.first c.in_ok-second-2.second
    other read.1 (subst (λ told. Holds told c.args.body.now after.0) c.in_ok-first.ensures.files after.1) read.2 after.2
