-- What one file is found to be.
use Rattle.std.proofs.Common.{◌≡◌, ◌⊎◌, inl, inr, ℕ, zero, suc, ◌<◌, ◌≤◌, List, [], ◌∷◌, length, sym, ◌∙◌, ap, subst, arith}
use Rattle.std.specs.Prelude.{Result, Ok, Err}
use Rattle.sled_log.specs.Digest.{digest}
use Rattle.sled_log.specs.Log.{log_of}
use Rattle.sled_files.specs.declared.found.OpenError.{OpenError}
use Rattle.sled_files.specs.declared.found.OpenError.TheVariants.{NoMemory, NotAStore, OtherFormat, Decayed, Disk}
use Rattle.sled_files.specs.theory.Found.{IsNoFile, is_why_no_file, IsNoLog, FlawOf}
use Rattle.sled_files.specs.Flaws.{HasMagic, HasNoFlaw}

pub ok_logs : (r : Result (List (List ℕ)) ℕ) (a b : List (List ℕ)) → r ≡ Ok a → r ≡ Ok b → a ≡ b
ok_logs r a b one two = let h = sym one ∙ two in cc

by_cases : (n : ℕ) → (n ≤ 1 → ⊥) → 1 < n
by_cases zero long = absurd (long (omega arith))
by_cases (suc zero) long = absurd (long (omega arith))
by_cases (suc (suc n)) long = omega arith

not_empty : (p : List ℕ) (ps : List (List ℕ)) → [] ≡ p ∷ ps → ⊥
not_empty p ps h = cc

pub heads : (p q : List ℕ) (ps qs : List (List ℕ)) → p ∷ ps ≡ q ∷ qs → p ≡ q
heads p q ps qs h = cc

-- a file that is none of a store has a flaw
flawed : {bytes : List ℕ} → IsNoFile bytes → HasNoFlaw bytes → ⊥
flawed n (inl blank) = n.no_blank blank
flawed n (inr it) = n.no_log it.0 it.1.first it.1.others it.1.log

module _ (bytes : List ℕ) (long : length bytes ≤ 1 → ⊥) where
  omega_long : 1 < length bytes
  omega_long = by_cases (length bytes) long

  no_file_log : (payloads : List (List ℕ)) (e : OpenError) → log_of digest bytes ≡ Ok payloads → IsNoLog e payloads → IsNoFile bytes
  no_file_log payloads e log n = record {
    no_blank = λ b. blank b;
    no_log = λ generation first others h. n.no_header generation first (heads _ _ _ _ (sym n.is ∙ ok_logs _ _ _ log h));
  }
    where
      blank : (length bytes ≤ 1) ⊎ (log_of digest bytes ≡ Ok []) → ⊥
      blank (inl le) = long le
      blank (inr none) = not_empty n.payload n.others (ok_logs _ _ _ none log ∙ n.is)

  no_file_decayed : (at : ℕ) → log_of digest bytes ≡ Err at → IsNoFile bytes
  no_file_decayed at log = record {
    no_blank = λ b. blank b;
    no_log = λ generation first others h. let e = sym log ∙ h in cc;
  }
    where
      blank : (length bytes ≤ 1) ⊎ (log_of digest bytes ≡ Ok []) → ⊥
      blank (inl le) = long le
      blank (inr none) = let e = sym log ∙ none in cc

  told_as : (payloads : List (List ℕ)) (e : OpenError) → log_of digest bytes ≡ Ok payloads → IsNoLog e payloads → HasMagic bytes → is_why_no_file e bytes
  told_as payloads NoMemory log n magic = absurd n.cause
  told_as payloads NotAStore log n magic = absurd n.cause
  told_as payloads (OtherFormat other) log n magic =
      (no_file_log payloads (OtherFormat other) log n, (magic, record { payload = n.payload; others = n.others; log = log ∙ ap (λ (l : List (List ℕ)). Ok l) n.is; begins = n.cause.0; long = n.cause.1; number = n.cause.2; is_other = n.cause.3 }))
  told_as payloads (Decayed at) log n magic = (no_file_log payloads (Decayed at) log n, (magic, inr (n.cause.0, record { payload = n.payload; others = n.others; log = log ∙ ap (λ (l : List (List ℕ)). Ok l) n.is; short = n.cause.1 })))
  told_as payloads (Disk e) log n magic = absurd n.cause

  pub why_log : (payloads : List (List ℕ)) (e told : OpenError) → log_of digest bytes ≡ Ok payloads → IsNoLog e payloads → FlawOf bytes e told → is_why_no_file told bytes
  why_log payloads e told log n (inl f) = subst (λ (x : OpenError). is_why_no_file x bytes) (sym f.1) (told_as payloads e log n f.0)
  why_log payloads e told log n (inr f) = subst (λ (x : OpenError). is_why_no_file x bytes) (sym f.1) (no_file_log payloads e log n, (flawed (no_file_log payloads e log n), f.0))

  pub why_decayed : (at : ℕ) (told : OpenError) → log_of digest bytes ≡ Err at → FlawOf bytes (Decayed at) told → is_why_no_file told bytes
  why_decayed at told log (inl f) = subst (λ (x : OpenError). is_why_no_file x bytes) (sym f.1) (no_file_decayed at log, (f.0, inl (record { long = omega_long; log = log })))
  why_decayed at told log (inr f) = subst (λ (x : OpenError). is_why_no_file x bytes) (sym f.1) (no_file_decayed at log, (flawed (no_file_decayed at log), f.0))
