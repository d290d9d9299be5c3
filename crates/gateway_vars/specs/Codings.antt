-- The codings of $util.
use Rattle.std.specs.Prelude.{List, ℕ, Option, Some, None, Result, Ok, Err, if◌then◌else◌}
use Rattle.std.specs.Str.{is_utf8}
use Rattle.base64.specs.Engines.{standard}
use Rattle.base64.specs.GeneralPurpose.{encode_of, decode_of}
use Rattle.base64.specs.declared.decode.DecodeError.{DecodeError}
use Rattle.form_urlencoded.specs.Form as form
use Rattle.call_facts.specs.Target.{form_decoded}

-- application/x-www-form-urlencoded (URL Standard, section 5.2)
abbrev pub url_encoded : List ℕ → List ℕ
url_encoded text = form.byte_serialize text

-- the same read (section 5.1); bytes that are no UTF-8 become U+FFFD
abbrev pub url_decoded : List ℕ → List ℕ
url_decoded text = form_decoded text

-- base64 (RFC 4648, section 4), with padding
abbrev pub base64_encoded : List ℕ → List ℕ
base64_encoded text = encode_of standard text

-- the text that these bytes are
unfoldable pub text_in : List ℕ → Option (List ℕ)
text_in bytes = if is_utf8 bytes then Some bytes else None

abbrev pub text_of : Result (List ℕ) DecodeError → Option (List ℕ)
text_of (Ok bytes) = text_in bytes
text_of (Err e) = None

-- the text that was encoded so; none where the padding is missing, where another byte stands there, or where bits are left over, or where the bytes are no UTF-8
abbrev pub base64_decoded : List ℕ → Option (List ℕ)
base64_decoded text = text_of (decode_of standard text)
