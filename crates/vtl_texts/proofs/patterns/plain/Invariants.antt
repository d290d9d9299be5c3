use Rattle.std.proofs.Common.{◌≡◌, false}
use Rattle.std.specs.Option.{option_map}
use Rattle.std.specs.String.{string_bytes}
use Rattle.std.specs.Str.{chars, IsUtf8, encode_utf8_all}
use Rattle.std.specs.Str.Iter.{chars_rest}
use Rattle.vtl_texts.specs.Patterns.{unescaped}
use Rattle.vtl_texts.proofs.Plain.{behind_made}
use Rattle.vtl_texts.proofs.patterns.plain.Given as goal

-- what is made, and what the rest stands for, is what all stands for
abbrev pub invariant-loop-c : goal.invariant-loop-c
invariant-loop-c l = record {
  utf8 : IsUtf8 (chars_rest l.rest);
  same : behind_made (string_bytes l.made) (unescaped l.escapes l.escaped (chars (chars_rest l.rest))) ≡ option_map encode_utf8_all (unescaped l.escapes false (chars l.text));
}
