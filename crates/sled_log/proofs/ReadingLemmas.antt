-- What is read of a log, block by block.
use Rattle.std.proofs.Common.{◌≡◌, ℕ, zero, suc, ◌+◌, ◌-◌, ◌≤◌, ◌<◌, ◌^◌, List, [], ◌∷◌, ◌++◌, length, take, drop, get_or, refl, sym, subst, ◌∙◌, ap, arith, length-append, length-drop}
use Rattle.std.specs.Prelude.{nat_le, Bool, true, false, Result, Option, Some, None, Ok, Err, if◌then◌else◌, nat_eq, ◌&&◌}
use Rattle.std.specs.List.{AllByRecursion}
use Rattle.std.specs.Int.{w64, to_le_bytes}
use Rattle.std.proofs.lemmas.List.{get_or-drop, append-nil, length-take-le, take-append-drop}
use Rattle.std.proofs.Math.Seq.{take-add}
use Rattle.std.proofs.lemmas.Nat.{le_bytes_8, mod_below}
use Rattle.std.proofs.lemmas.Bool.{eqb-true, leb-true}
use Rattle.sled_log.specs.Digest.{digest}
use Rattle.sled_log.specs.Log.{closed, opened, block, blocks, number_in, payload_in, is_whole, next_of, with_first, log_by, log_from, log_of, IsLog}
use Rattle.sled_log.specs.Tear.{HasNoBlock, EndsAt}
use Rattle.sled_log.proofs.LogLemmas.{with_all, log_goes_on, log_closed, count-blocks}
use Rattle.sled_log.proofs.Appending.{all_push, blocks_push}

pub digest_small : (p : List ℕ) → digest p < 2 ^ 64
unfolding digest
digest_small p = mod_below _ (2 ^ 64) (omega arith)

-- each of them is a byte
abbrev pub AreBytes : List ℕ → Type 0
AreBytes l = (i : ℕ) → get_or l i 0 < 256

pub bytes-take : (n : ℕ) (l : List ℕ) → AreBytes l → AreBytes (take n l)
bytes-take zero l small i = omega arith
bytes-take (suc n) [] small i = omega arith
bytes-take (suc n) (x ∷ l) small zero = small 0
bytes-take (suc n) (x ∷ l) small (suc i) = bytes-take n l (λ j. small (suc j)) i

pub bytes-drop : (n : ℕ) (l : List ℕ) → AreBytes l → AreBytes (drop n l)
bytes-drop n l small i = subst (λ (b : ℕ). b < 256) (sym (get_or-drop n l i 0)) (small (n + i))

-- what stands at a gate, by the tests that say so
abbrev pub chosen : Bool → Bool → Bool → List ℕ → Result (Option (List ℕ)) (Unit {0})
chosen is_closed is_opened whole payload = if is_closed then Ok None else if is_opened && whole then Ok (Some payload) else Err tt

pub some_chosen : (x y long fits : Bool) (q p : List ℕ) → chosen x y (long && fits) q ≡ Ok (Some p) → (y ≡ true) × (long ≡ true) × (fits ≡ true) × (q ≡ p)
some_chosen true y long fits q p h = absurd (cc)
some_chosen false true true true q p h = (refl, refl, refl, cc)
some_chosen false true true false q p h = absurd (cc)
some_chosen false true false fits q p h = absurd (cc)
some_chosen false false long fits q p h = absurd (cc)

none_chosen : (x y z : Bool) (q : List ℕ) → chosen x y z q ≡ Ok None → x ≡ true
none_chosen true y z q h = refl
none_chosen false true true q h = absurd (cc)
none_chosen false true false q h = absurd (cc)
none_chosen false false z q h = absurd (cc)

module _ (digest : List ℕ → ℕ) where
  -- behind a gate, the block whose payload is read
  behind_is : (b p : List ℕ) → AreBytes b → nat_le (16 + number_in b) (length b) ≡ true → nat_eq (number_in (drop 8 b)) (digest (payload_in b)) ≡ true → payload_in b ≡ p → (to_le_bytes w64 (length p) ++ to_le_bytes w64 (digest p) ++ p ≡ take (16 + length p) b) × (16 + length p ≤ length b)
  behind_is b p small whole right is =
      let n = number_in b in
      let long : 16 + n ≤ length b = leb-true _ _ whole in
      let payload_long : n ≤ length (drop 16 b) = omega (arith, long, length-drop 16 b) in
      let size : length p ≡ n = ap length (sym is) ∙ length-take-le n (drop 16 b) payload_long in
      let first : to_le_bytes w64 (length p) ≡ take 8 b = le_bytes_8 (take 8 b) (length p) (length-take-le 8 b (omega (arith, long))) (bytes-take 8 b small) size in
      let fits : digest p ≡ number_in (drop 8 b) = sym (eqb-true _ _ right ∙ ap digest is) in
      let second : to_le_bytes w64 (digest p) ≡ take 8 (drop 8 b) =
      le_bytes_8 (take 8 (drop 8 b)) (digest p) (length-take-le 8 (drop 8 b) (omega (arith, long, length-drop 8 b))) (bytes-take 8 (drop 8 b) (bytes-drop 8 b small)) fits in (
        ap (λ (l : List ℕ). l ++ to_le_bytes w64 (digest p) ++ p) first
            ∙ ap (λ (l : List ℕ). take 8 b ++ l ++ p) second
            ∙ ap (λ (l : List ℕ). l ++ p) (sym (take-add 8 8 b))
            ∙ ap (λ (l : List ℕ). take 16 b ++ l) (sym is ∙ ap (λ (m : ℕ). take m (drop 16 b)) (sym size))
            ∙ sym (take-add 16 (length p) b),
        omega (arith, long, size),
      )

  -- the block whose payload is read stands there
  pub block_is : (l p : List ℕ) → AreBytes l → next_of digest l ≡ Ok (Some p) → (take (17 + length p) l ≡ block digest opened p) × (17 + length p ≤ length l)
  block_is [] p small h = absurd (cc)
  block_is (gate ∷ b) p small h =
      let told = some_chosen (nat_eq gate closed) (nat_eq gate opened) (nat_le (16 + number_in b) (length b)) (nat_eq (number_in (drop 8 b)) (digest (payload_in b))) (payload_in b) p h in
      let behind = behind_is b p (λ i. small (suc i)) told.1 told.2 told.3 in
      let more : 17 + length p ≡ suc (16 + length p) = omega arith in (
        ap (λ (n : ℕ). take n (gate ∷ b)) more
            ∙ ap (λ (g : ℕ). g ∷ take (16 + length p) b) (eqb-true gate opened told.0)
            ∙ ap (λ (l : List ℕ). opened ∷ l) (sym behind.0),
        omega (arith, behind.1),
      )

  pub closed_is : (l : List ℕ) → next_of digest l ≡ Ok None → l ≡ closed ∷ drop 1 l
  closed_is [] h = absurd (cc)
  closed_is (gate ∷ b) h = ap (λ (g : ℕ). g ∷ b) (eqb-true gate closed (none_chosen (nat_eq gate closed) (nat_eq gate opened) (is_whole digest b) (payload_in b) h))

-- so many bytes of a file are the blocks of these payloads
pub record IsFront (digest : List ℕ → ℕ) (file : List ℕ) (payloads : List (List ℕ)) (at : ℕ) : Type 0 where
  pub fit : AllByRecursion (λ p. length p < 2 ^ 64) payloads
  pub within : at ≤ length file
  pub front : take at file ≡ blocks digest payloads

module _ {digest : List ℕ → ℕ} {file : List ℕ} {payloads : List (List ℕ)} {at : ℕ} (so_far : IsFront digest file payloads at) where
  file_is : file ≡ blocks digest payloads ++ drop at file
  file_is = sym (take-append-drop at file) ∙ ap (λ (l : List ℕ). l ++ drop at file) so_far.front

  size : length (blocks digest payloads) ≡ at
  size = ap length (sym so_far.front) ∙ length-take-le at file so_far.within

  -- one block more
  pub front_more : (p : List ℕ) → AreBytes file → length file < 2 ^ 64 → next_of digest (drop at file) ≡ Ok (Some p) → IsFront digest file (payloads ++ p ∷ []) (at + (17 + length p))
  front_more p small few next =
      let there = block_is digest (drop at file) p (bytes-drop at file small) next in
      record {
        fit = all_push payloads p so_far.fit (omega (arith, few, there.1, length-drop at file));
        within = omega (arith, there.1, length-drop at file, so_far.within);
        front = take-add at (17 + length p) file
            ∙ ap (λ (l : List ℕ). l ++ take (17 + length p) (drop at file)) so_far.front
            ∙ ap (λ (l : List ℕ). blocks digest payloads ++ l) (there.0 ∙ sym (append-nil (block digest opened p)))
            ∙ sym (blocks_push digest payloads p [])
            ∙ append-nil (blocks digest (payloads ++ p ∷ []));
      }

  -- a closed gate ends the log
  pub front_closes : next_of digest (drop at file) ≡ Ok None → IsLog digest file payloads at
  front_closes next = record {
    fit = so_far.fit;
    rest = drop 1 (drop at file);
    file_is = file_is ∙ ap (λ (l : List ℕ). blocks digest payloads ++ l) (closed_is digest (drop at file) next);
    gate_is = size;
  }

  -- where no block is, the log ends
  pub front_ends : HasNoBlock digest (drop at file) → EndsAt digest file payloads at
  front_ends ends = record { fit = so_far.fit; rest = drop at file; file_is = file_is; ends = ends; place_is = size }

  fails_from : (most start : ℕ) (l : List ℕ) (fault : Unit {0}) → next_of digest l ≡ Err fault → log_from digest most start l ≡ Err start
  fails_from zero start l fault next = refl
  fails_from (suc most) start l fault next = ap (λ n. log_by n start (λ p. log_from digest most (start + (17 + length p)) (drop (17 + length p) l))) next

  with_fault : (ps : List (List ℕ)) (place : ℕ) → with_all ps (Err place) ≡ Err place
  with_fault [] place = refl
  with_fault (p ∷ ps) place = ap (with_first p) (with_fault ps place)

  -- a fault is at its place
  pub front_fails : ((p : List ℕ) → digest p < 2 ^ 64) → (fault : Unit {0}) → next_of digest (drop at file) ≡ Err fault → log_of digest file ≡ Err at
  front_fails small fault next =
      let rest = drop at file in
      let whole = blocks digest payloads ++ rest in
      let most : ℕ = length whole - length payloads in
      let enough : most + length payloads ≡ length whole = omega (arith, count-blocks digest small payloads, length-append (blocks digest payloads) rest) in
      ap (log_of digest) file_is
      ∙ log_goes_on digest small payloads rest most so_far.fit enough
      ∙ ap (λ (r : Result (List (List ℕ)) ℕ). with_all payloads r) (fails_from most (length (blocks digest payloads)) rest fault next)
      ∙ with_fault payloads (length (blocks digest payloads))
      ∙ ap (λ (n : ℕ). Err n) size

-- what a log says is its payloads
pub log_read : {digest : List ℕ → ℕ} {file : List ℕ} {payloads : List (List ℕ)} {gate : ℕ} → ((p : List ℕ) → digest p < 2 ^ 64) → IsLog digest file payloads gate → log_of digest file ≡ Ok payloads
log_read {digest} {file} {payloads} small log = ap (log_of digest) log.file_is ∙ log_closed digest small payloads log.rest log.fit
