-- Whether changes that were replayed are those of a store.
use Rattle.std.proofs.Common.{◌≡◌, ℕ, ◌+◌, ◌<◌, ◌≤◌, ◌^◌, List, [], ◌∷◌, map, drop, Bor, sym, ◌∙◌, ap, subst, arith}
use Rattle.std.specs.Prelude.{max, Result, Ok}
use Rattle.std.specs.List.{All}
use Rattle.std.proofs.lemmas.List.Elements.{All-nil, All-cons, All-head, All-tail}
use Rattle.std.proofs.lemmas.List.{drop-map}
use Rattle.sled_bytes.specs.declared.change.Change.{Change}
use Rattle.sled_bytes.specs.declared.change.Change.TheVariants.{Given, Linked, Freed, Rooted, Begun, Sealed, Marked, Limited}
use Rattle.sled_bytes.specs.declared.refusal.Flaw.{Flaw}
use Rattle.sled_pages.specs.Memory.{store_of, calls_refused}
use Rattle.sled_files.specs.declared.replay.Replay.{Replay}
use Rattle.sled_files.specs.declared.replay.Made.{Made}
use Rattle.sled_files.specs.Change.{Durable, nothing_yet, changed_all, IsWithin, AreOfStore}
use Rattle.sled_files.specs.Standing.{all_changes}
use Rattle.sled_files.specs.theory.Replay.{Numbers, numbers_after, numbers_after_all, HasPlace, AreBelow, IsWhole, IsReplay, replayed_of}
use Rattle.sled_files.specs.Opening.{IsReopened}
use Rattle.sled_files.specs.theory.Chosen.{IsMade}

-- numbers do not fall
first_grows : (c : Change) (n : Numbers) → (n.0 ≤ (numbers_after c n).0) × (n.1 ≤ (numbers_after c n).1)
first_grows (Given pid version node) n = (grind arith, grind arith)
first_grows (Linked pid version link) n = (omega arith, grind arith)
first_grows (Freed pid) n = (omega arith, omega arith)
first_grows (Rooted name root) n = (omega arith, omega arith)
first_grows Begun n = (omega arith, omega arith)
first_grows Sealed n = (omega arith, omega arith)
first_grows (Marked upto) n = (omega arith, omega arith)
first_grows (Limited pids versions) n = (omega arith, omega arith)

grows : (cs : List Change) (n : Numbers) → (n.0 ≤ (numbers_after_all cs n).0) × (n.1 ≤ (numbers_after_all cs n).1)
grows [] n = (omega arith, omega arith)
grows (c ∷ cs) n = let one = first_grows c n in let rest = grows cs (numbers_after c n) in (omega (arith, one.0, rest.0), omega (arith, one.1, rest.1))

module _ (d : Durable) where
  one_within : (c : Change) (n last : Numbers) → HasPlace c → ((numbers_after c n).0 ≤ last.0) × ((numbers_after c n).1 ≤ last.1) → AreBelow last d → IsWithin d c
  one_within (Given pid version node) n last place le below =
      let most : pid ≤ max n.0 pid = grind arith in
      let next : version + 1 ≤ max n.1 (version + 1) = grind arith in
      (place.0, (let b = below.pids (omega (arith, place.0, most, le.0)) in omega (arith, b, most, le.0)), omega (arith, next, le.1, below.versions))
  one_within (Linked pid version link) n last place le below =
      let next : version + 1 ≤ max n.1 (version + 1) = grind arith in
      (place.0, omega (arith, next, le.1, below.versions))
  one_within (Freed pid) n last place le below = tt
  one_within (Rooted name root) n last place le below = tt
  one_within Begun n last place le below = tt
  one_within Sealed n last place le below = tt
  one_within (Marked upto) n last place le below = tt
  one_within (Limited pids versions) n last place le below = tt

  all_within : (cs : List Change) (n : Numbers) → All HasPlace cs → AreBelow (numbers_after_all cs n) d → All (IsWithin d) cs
  all_within [] n placed below = All-nil (IsWithin d)
  all_within (c ∷ cs) n placed below =
      All-cons (IsWithin d) c cs (one_within c n (numbers_after_all cs (numbers_after c n)) (All-head HasPlace c cs placed) (grows cs (numbers_after c n)) below)
      (all_within cs (numbers_after c n) (All-tail HasPlace c cs placed) below)

  one_below : (c : Change) (n : Numbers) → IsWithin d c → AreBelow n d → AreBelow (numbers_after c n) d
  one_below (Given pid version node) n within below = record { pids = λ lt. (let b = below.pids in let w = within.1 in grind arith); versions = (let b = below.versions in let w = within.2 in grind arith) }
  one_below (Linked pid version link) n within below = record { pids = below.pids; versions = (let b = below.versions in let w = within.1 in grind arith) }
  one_below (Freed pid) n within below = below
  one_below (Rooted name root) n within below = below
  one_below Begun n within below = below
  one_below Sealed n within below = below
  one_below (Marked upto) n within below = below
  one_below (Limited pids versions) n within below = below

  all_below : (cs : List Change) (n : Numbers) → All (IsWithin d) cs → AreBelow n d → AreBelow (numbers_after_all cs n) d
  all_below [] n within below = below
  all_below (c ∷ cs) n within below = all_below cs (numbers_after c n) (All-tail (IsWithin d) c cs within) (one_below c n (All-head (IsWithin d) c cs within) below)

  one_placed : d.versions < 2 ^ 64 → (c : Change) → IsWithin d c → HasPlace c
  one_placed fits (Given pid version node) within = (within.0, omega (arith, fits, within.2))
  one_placed fits (Linked pid version link) within = (within.0, omega (arith, fits, within.1))
  one_placed fits (Freed pid) within = tt
  one_placed fits (Rooted name root) within = tt
  one_placed fits Begun within = tt
  one_placed fits Sealed within = tt
  one_placed fits (Marked upto) within = tt
  one_placed fits (Limited pids versions) within = tt

  pub all_placed : d.versions < 2 ^ 64 → (cs : List Change) → All (IsWithin d) cs → All HasPlace cs
  all_placed fits [] within = All-nil HasPlace
  all_placed fits (c ∷ cs) within = All-cons HasPlace c cs (one_placed fits c (All-head (IsWithin d) c cs within)) (all_placed fits cs (All-tail (IsWithin d) c cs within))

none_below : (d : Durable) → AreBelow (0, 0) d
none_below d = record { pids = λ lt. omega (arith, lt); versions = omega arith }

module _ {read : Result (List Change) Flaw} {r : Replay} (is : IsReplay read r) where
  pub is_made : (store : Made) → IsWhole r → IsReopened (replayed_of r) (store_of store.pages) → (store.pids ≡ r.pids) × (store.versions ≡ r.versions) → calls_refused store.pages ≡ [] → IsMade read store
  is_made store whole reopened limits named = record {
    changes = is.changes;
    is = is.is;
    made = subst (λ (d : Durable). AreOfStore is.changes d) is.made (record {
      within = all_within (replayed_of r) is.changes (0, 0) is.placed (subst (λ (n : Numbers). AreBelow n (replayed_of r)) is.numbers whole.below);
      fits = whole.fits;
      sealed = whole.sealed;
    });
    reopened = subst (λ (d : Durable). IsReopened d (store_of store.pages)) is.made reopened;
    pids = limits.0 ∙ ap (λ (d : Durable). d.pids) is.made;
    versions = limits.1 ∙ ap (λ (d : Durable). d.versions) is.made;
    named = named;
  }

  pub is_unmade : (IsWhole r → ⊥) → (changes : List Change) → read ≡ Ok changes → AreOfStore changes (changed_all changes nothing_yet) → ⊥
  is_unmade unwhole changes same made =
      let mine : changes ≡ is.changes = ok_same changes is.changes read same is.is in
      let d : changed_all changes nothing_yet ≡ replayed_of r = ap (λ (l : List Change). changed_all l nothing_yet) mine ∙ sym is.made in
      let m : AreOfStore changes (replayed_of r) = subst (λ (x : Durable). AreOfStore changes x) d made in
      unwhole (record {
        sealed = m.sealed;
        fits = m.fits;
        below = subst (λ (n : Numbers). AreBelow n (replayed_of r)) (ap (λ (l : List Change). numbers_after_all l (0, 0)) mine ∙ sym is.numbers) (all_below (replayed_of r) changes (0, 0) m.within (none_below (replayed_of r)));
      })
    where
      ok_same : (a b : List Change) (x : Result (List Change) Flaw) → x ≡ Ok a → x ≡ Ok b → a ≡ b
      ok_same a b x one two = let h = sym one ∙ two in cc

-- the same of payloads that are lent

behind_first : (given items : List (Bor (List ℕ))) → given ≡ drop 1 items → map (λ p. p.now) given ≡ drop 1 (map (λ p. p.now) items)
behind_first given items is = let of : Bor (List ℕ) → List ℕ = λ p. p.now in ap (map of) is ∙ sym (drop-map of 1 items)

module _ (first : List ℕ) (given items : List (Bor (List ℕ))) (is : given ≡ drop 1 items) {r : Replay} (replay : IsReplay (all_changes (first ∷ map (λ p. p.now) given)) r) where
  there : IsReplay (all_changes (first ∷ drop 1 (map (λ p. p.now) items))) r
  there = subst (λ (l : List (List ℕ)). IsReplay (all_changes (first ∷ l)) r) (behind_first given items is) replay

  pub made_of : (store : Made) → IsWhole r → IsReopened (replayed_of r) (store_of store.pages) → (store.pids ≡ r.pids) × (store.versions ≡ r.versions) → calls_refused store.pages ≡ [] → IsMade (all_changes (first ∷ drop 1 (map (λ p. p.now) items))) store
  made_of store whole reopened limits named = is_made there store whole reopened limits named

  pub unmade_of : (IsWhole r → ⊥) → (changes : List Change) → all_changes (first ∷ drop 1 (map (λ p. p.now) items)) ≡ Ok changes → AreOfStore changes (changed_all changes nothing_yet) → ⊥
  unmade_of unwhole changes same made = is_unmade there unwhole changes same made
