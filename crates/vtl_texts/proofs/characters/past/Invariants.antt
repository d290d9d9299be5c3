use Rattle.std.proofs.Common.{◌≡◌, ◌≤◌, length, drop}
use Rattle.std.specs.Str.{chars, IsUtf8}
use Rattle.std.specs.Str.Iter.{chars_rest}
use Rattle.vtl_texts.proofs.characters.past.Given as goal

-- what is left are the characters behind the first
abbrev pub invariant-loop-k : goal.invariant-loop-k
invariant-loop-k l = record {
  utf8 : IsUtf8 (chars_rest l.rest);
  left : chars (chars_rest l.rest) ≡ drop l._k (chars l.fn.text);
  fits : l._k ≤ length (chars l.fn.text);
}
