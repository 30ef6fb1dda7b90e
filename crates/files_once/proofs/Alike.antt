-- What is read of a file stands for the same after the file was mended.
use Rattle.std.proofs.Common.{◌≡◌, ◌∙◌, inl, inr, ⊎_elim, ℕ, zero, suc, ◌+◌, List, [], ◌∷◌, ◌++◌, length, drop, refl, sym, ap, subst}
use Rattle.std.specs.Prelude.{◌⊎◌, Result, Option, Some, None, Ok, Err}
use Rattle.sled_log.specs.Digest.{digest}
use Rattle.sled_log.specs.Log.{next_of, with_first, log_by, log_from, log_of}
use Rattle.sled_log.specs.Tear.{tear_by, tear_from, log_to_tear}
use Rattle.sled_log.proofs.Tearing.{short_ends, ends_here}
use Rattle.sled_files.specs.Change.{Durable}
use Rattle.sled_files.specs.Header.{header}
use Rattle.sled_files.specs.Standing.{StandsFor, IsOlder, IsBlank, AreFor, AreBlank}
use Rattle.sled_files.specs.Lasting.{Limits, IsLasting}
use Rattle.sled_once.specs.Stages.{IsReadAs}
use Rattle.files_once.specs.Mended.{IsMended}
use Rattle.files_once.specs.Lasting.{AreReadFor, AreReadLasting}
use Rattle.sled_store.specs.Store.{Store}

-- what holds of two files holds of the same
pub of_equal : (P : List ℕ → List ℕ → Type 0) {a b c d : List ℕ} → a ≡ c → b ≡ d → P a b → P c d
of_equal P {a} {b} {c} {d} one two p = subst (λ (l : List ℕ). P c l) two (subst (λ (l : List ℕ). P l b) one p)

-- what one payload and what follows are read as, where no fault is
first_is : (payload : List ℕ) (following : Result (List (List ℕ)) ℕ) (others ps : List (List ℕ)) → ((qs : List (List ℕ)) → following ≡ Ok qs → others ≡ qs) → with_first payload following ≡ Ok ps → payload ∷ others ≡ ps
first_is payload (Ok qs) others ps same is = let one : others ≡ qs = same qs refl in ap (λ (l : List (List ℕ)). payload ∷ l) one ∙ cc
first_is payload (Err at) others ps same is = absurd (cc)

next_is : (next : Result (Option (List ℕ)) (Unit {0})) (at : ℕ) (following : List ℕ → Result (List (List ℕ)) ℕ) (others : List ℕ → List (List ℕ)) (ps : List (List ℕ))
    → ((p : List ℕ) (qs : List (List ℕ)) → following p ≡ Ok qs → others p ≡ qs) → log_by next at following ≡ Ok ps → tear_by next others ≡ ps
next_is (Ok None) at following others ps same is = cc
next_is (Ok (Some p)) at following others ps same is = first_is p (following p) (others p) ps (same p) is
next_is (Err fault) at following others ps same is = absurd (cc)

from_is : (most at : ℕ) (bytes : List ℕ) (ps : List (List ℕ)) → log_from digest most at bytes ≡ Ok ps → tear_from digest most bytes ≡ ps
from_is zero at bytes ps is = absurd (cc)
from_is (suc most) at bytes ps is =
    next_is (next_of digest bytes) at (λ p. log_from digest most (at + (17 + length p)) (drop (17 + length p) bytes)) (λ p. tear_from digest most (drop (17 + length p) bytes)) ps
    (λ p qs. from_is most (at + (17 + length p)) (drop (17 + length p) bytes) qs) is

-- of a log without a tear all is read
pub whole_is : (file : List ℕ) (ps : List (List ℕ)) → log_of digest file ≡ Ok ps → log_to_tear digest file ≡ ps
whole_is file ps is = from_is (length file) 0 file ps is

pub blank_is : (file : List ℕ) → IsBlank file → log_to_tear digest file ≡ []
blank_is file (inl short) = ends_here digest (length file) file (short_ends digest file short)
blank_is file (inr log) = whole_is file [] log

module _ (file c : List ℕ) (read : IsReadAs file c) where
  same_read : log_to_tear digest c ≡ log_to_tear digest file
  same_read = ⊎_elim (λ is. ap (λ (l : List ℕ). log_to_tear digest l) is) (λ it. it.0) read

  module _ (mended : List ℕ) (m : IsMended c mended) where
    -- a store's file
    of_store : (generation : ℕ) (first : List ℕ) (others : List (List ℕ)) → log_of digest file ≡ Ok ((header generation ++ first) ∷ others) → log_of digest mended ≡ Ok ((header generation ++ first) ∷ others)
    of_store generation first others log =
        let read_as : log_to_tear digest c ≡ (header generation ++ first) ∷ others = same_read ∙ whole_is file ((header generation ++ first) ∷ others) log in
        ⊎_elim
        (λ it. absurd (it.1 (record { generation = generation; first = first; others = others; read = read_as })))
        (λ it. it.log ∙ ap (λ (ps : List (List ℕ)). Ok ps) read_as)
        m

    stands_mended : (generation : ℕ) (d : Durable) → StandsFor file generation d → StandsFor mended generation d
    stands_mended generation d s = record {
      changes = s.changes;
      has = record { fits = s.has.fits; first = s.has.first; others = s.has.others; log = of_store generation s.has.first s.has.others s.has.log; decoded = s.has.decoded };
      makes = s.makes;
      made = s.made;
    }

    older_mended : (generation : ℕ) → IsOlder generation file → IsOlder generation mended
    older_mended generation o = record { earlier = o.earlier; below = o.below; is = record { fits = o.is.fits; first = o.is.first; others = o.is.others; log = of_store o.earlier o.is.first o.is.others o.is.log } }

    pub blank_mended : IsBlank file → IsBlank mended
    blank_mended blank =
        let none = blank_is file blank in
        let is : c ≡ file = ⊎_elim (λ is. is) (λ it. absurd (it.1 none)) read in
        ⊎_elim
        (λ it. subst (λ (l : List ℕ). IsBlank l) (sym (it.0 ∙ is)) blank)
        (λ it. inr (it.log ∙ ap (λ (ps : List (List ℕ)). Ok ps) (same_read ∙ none)))
        m

    behind_mended : (generation : ℕ) → IsBlank file ⊎ IsOlder generation file → IsBlank mended ⊎ IsOlder generation mended
    behind_mended generation behind = ⊎_elim (λ b. inl (blank_mended b)) (λ o. inr (older_mended generation o)) behind

module _ (first second one two first_now second_now : List ℕ) (first_read : IsReadAs one first) (second_read : IsReadAs two second) (first_mended : IsMended first first_now) (second_mended : IsMended second second_now) where
  pub are_for : (d : Durable) → AreFor one two d → AreFor first_now second_now d
  are_for d a = record {
    generation = a.generation;
    which = ⊎_elim
        (λ c. inl (record { stands = stands_mended one first first_read first_now first_mended a.generation d c.stands; behind = behind_mended two second second_read second_now second_mended a.generation c.behind }))
        (λ c. inr (record { stands = stands_mended two second second_read second_now second_mended a.generation d c.stands; behind = behind_mended one first first_read first_now first_mended a.generation c.behind }))
        a.which;
  }

module _ (first second first_now second_now : List ℕ) (first_mended : IsMended first first_now) (second_mended : IsMended second second_now) where
  -- files that are read for a store stand for it, once they are mended
  pub read_for : (d : Durable) → AreReadFor first second d → AreFor first_now second_now d
  read_for d a = are_for first second a.one a.two first_now second_now a.first_read a.second_read first_mended second_mended d a.stand

  pub read_lasting : (asked : List ℕ) (limits : Limits) (s : Store) → AreReadLasting asked limits s first second → IsLasting asked limits s first_now second_now
  read_lasting asked limits s a = record { durable = a.lasting.durable; stands = are_for first second a.one a.two first_now second_now a.first_read a.second_read first_mended second_mended a.lasting.durable a.lasting.stands; right = a.lasting.right }

  pub read_blank : AreBlank first second → AreBlank first_now second_now
  read_blank b = record { first_is = blank_mended first first (inl refl) first_now first_mended b.first_is; second_is = blank_mended second second (inl refl) second_now second_mended b.second_is }
