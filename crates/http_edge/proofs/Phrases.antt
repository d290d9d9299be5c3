-- A number that has not three digits has no phrase.
use Rattle.std.proofs.Common.{arith, ◌≡◌, ℕ, ◌<◌, ◌≤◌, ◌==◌, false, inl, inr, None, refl}
use Rattle.std.proofs.lemmas.Bool.{cases_Bool}
use Rattle.std.proofs.lemmas.Bool.Decides.{nat_tests}
use Rattle.http.specs.StatusCode.{IsStatusCode, reason_phrase}

far : (n k : ℕ) → ¬ (IsStatusCode n) → 100 ≤ k → k < 1000 → (n == k) ≡ false
far n k none low high = elim (cases_Bool (n == k)) [
  | inl h ↦ let e : n ≡ k = grind (arith, nat_tests) in absurd (none (omega (arith, e, low), omega (arith, e, high)))
  | inr h ↦ h
]

pub no_phrase : (n : ℕ) → ¬ (IsStatusCode n) → reason_phrase n ≡ None
no_phrase n none = rw (far n 100 none (omega arith) (omega arith), far n 101 none (omega arith) (omega arith), far n 102 none (omega arith) (omega arith), far n 103 none (omega arith) (omega arith), far n 200 none (omega arith) (omega arith), far n 201 none (omega arith) (omega arith), far n 202 none (omega arith) (omega arith), far n 203 none (omega arith) (omega arith), far n 204 none (omega arith) (omega arith), far n 205 none (omega arith) (omega arith), far n 206 none (omega arith) (omega arith), far n 207 none (omega arith) (omega arith), far n 208 none (omega arith) (omega arith), far n 226 none (omega arith) (omega arith), far n 300 none (omega arith) (omega arith), far n 301 none (omega arith) (omega arith), far n 302 none (omega arith) (omega arith), far n 303 none (omega arith) (omega arith), far n 304 none (omega arith) (omega arith), far n 305 none (omega arith) (omega arith), far n 307 none (omega arith) (omega arith), far n 308 none (omega arith) (omega arith), far n 400 none (omega arith) (omega arith), far n 401 none (omega arith) (omega arith), far n 402 none (omega arith) (omega arith), far n 403 none (omega arith) (omega arith), far n 404 none (omega arith) (omega arith), far n 405 none (omega arith) (omega arith), far n 406 none (omega arith) (omega arith), far n 407 none (omega arith) (omega arith), far n 408 none (omega arith) (omega arith), far n 409 none (omega arith) (omega arith), far n 410 none (omega arith) (omega arith), far n 411 none (omega arith) (omega arith), far n 412 none (omega arith) (omega arith), far n 413 none (omega arith) (omega arith), far n 414 none (omega arith) (omega arith), far n 415 none (omega arith) (omega arith), far n 416 none (omega arith) (omega arith), far n 417 none (omega arith) (omega arith), far n 418 none (omega arith) (omega arith), far n 421 none (omega arith) (omega arith), far n 422 none (omega arith) (omega arith), far n 423 none (omega arith) (omega arith), far n 424 none (omega arith) (omega arith), far n 425 none (omega arith) (omega arith), far n 426 none (omega arith) (omega arith), far n 428 none (omega arith) (omega arith), far n 429 none (omega arith) (omega arith), far n 431 none (omega arith) (omega arith), far n 451 none (omega arith) (omega arith), far n 500 none (omega arith) (omega arith), far n 501 none (omega arith) (omega arith), far n 502 none (omega arith) (omega arith), far n 503 none (omega arith) (omega arith), far n 504 none (omega arith) (omega arith), far n 505 none (omega arith) (omega arith), far n 506 none (omega arith) (omega arith), far n 507 none (omega arith) (omega arith), far n 508 none (omega arith) (omega arith), far n 510 none (omega arith) (omega arith), far n 511 none (omega arith) (omega arith)) refl
