-- Links and changes that are read are spelled so, each byte of them.
use Rattle.std.proofs.Common.{◌≡◌, ℕ, zero, suc, List, [], ◌∷◌, ◌++◌, refl, sym, ap, subst, ◌∙◌, Bool, true, false, Result, Ok, Err, if◌then◌else◌, nat_eq}
use Rattle.std.specs.List.{flat_map, All}
use Rattle.std.proofs.lemmas.Bool.{eqb-true}
use Rattle.std.proofs.lemmas.List.Elements.{All-nil, All-cons}
use Rattle.sled_nodes.specs.declared.link.Link.{Link}
use Rattle.sled_nodes.specs.declared.link.Link.TheVariants.{Set, Del, ParentMergeIntention, ParentMergeConfirm, ChildMergeCap}
use Rattle.sled_bytes.specs.declared.change.Change.{Change}
use Rattle.sled_bytes.specs.declared.change.Change.TheVariants.{Given, Linked, Freed, Rooted, Begun, Sealed, Marked, Limited}
use Rattle.sled_bytes.specs.declared.refusal.Flaw.{Flaw}
use Rattle.sled_bytes.specs.declared.refusal.Flaw.TheVariants.{Unknown}
use Rattle.sled_bytes.specs.Spelling.{number, string, optional, pair, node_bytes, kind, link_bytes, numbers, change_bytes, FitsNumber, FitsLink, FitsChange}
use Rattle.sled_bytes.specs.Reading.{then_read, number_at, string_at, byte_at, optional_at, pair_at, node_at, set_at, del_at, intention_at, link_of_kind, link_at, given_at, linked_at, freed_at, rooted_at, marked_at, limited_at, change_of_kind, change_at, changes_from, changes_of}
use Rattle.sled_bytes.proofs.Spelled.{AreBytes, Taken, taken_then, read_first, ok_is, number_taken, string_taken, byte_taken, optional_taken, pair_taken, node_taken}

-- one of two, by whether a kind is this one
by_kind : {A : Type 0} (P : Type 0) (k i : ℕ) (x y : Result A Flaw) (z : A) → (k ≡ i → x ≡ Ok z → P) → (y ≡ Ok z → P) → (if nat_eq k i then x else y) ≡ Ok z → P
by_kind {A} P k i x y z here there e = go (nat_eq k i) refl e
  where
    go : (b : Bool) → nat_eq k i ≡ b → (if b then x else y) ≡ Ok z → P
    go true is chosen = here (eqb-true k i is) chosen
    go false is chosen = there chosen

no_kind : {A P : Type 0} (z : A) → Err Unknown ≡ Ok z → P
no_kind z e = absurd cc

kind_first : (k : ℕ) (rest : List ℕ) → AreBytes rest → Taken (k ∷ rest) (kind k) rest
kind_first k rest low = record { parts = refl; low = low }

-- ---- links

abbrev LinkTaken : List ℕ → Link × List ℕ → Type 0
LinkTaken bytes x = Taken bytes (link_bytes x.0) x.1 × FitsLink x.0

set_taken : (rest : List ℕ) (x : Link × List ℕ) → AreBytes rest → set_at rest ≡ Ok x → LinkTaken (1 ∷ rest) x
unfolding set_at
set_taken rest x low e =
    let a = read_first (pair_at rest) (λ e. Ok (Set e.0.0 e.0.1, e.1)) x e in
    let t = pair_taken rest a.0 low a.1 in
    subst (LinkTaken (1 ∷ rest)) (ok_is (Set a.0.0.0 a.0.0.1, a.0.1) x a.2) (taken_then (1 ∷ rest) (kind 1) rest (pair a.0.0) a.0.1 (kind_first 1 rest low) t.0, t.1)

del_taken : (rest : List ℕ) (x : Link × List ℕ) → AreBytes rest → del_at rest ≡ Ok x → LinkTaken (2 ∷ rest) x
unfolding del_at
del_taken rest x low e =
    let a = read_first (string_at rest) (λ key. Ok (Del key.0, key.1)) x e in
    let t = string_taken rest a.0 low a.1 in
    subst (LinkTaken (2 ∷ rest)) (ok_is (Del a.0.0, a.0.1) x a.2) (taken_then (2 ∷ rest) (kind 2) rest (string a.0.0) a.0.1 (kind_first 2 rest low) t.0, t.1)

intention_taken : (rest : List ℕ) (x : Link × List ℕ) → AreBytes rest → intention_at rest ≡ Ok x → LinkTaken (3 ∷ rest) x
unfolding intention_at
intention_taken rest x low e =
    let a = read_first (number_at rest) (λ child. Ok (ParentMergeIntention child.0, child.1)) x e in
    let t = number_taken rest a.0 low a.1 in
    subst (LinkTaken (3 ∷ rest)) (ok_is (ParentMergeIntention a.0.0, a.0.1) x a.2) (taken_then (3 ∷ rest) (kind 3) rest (number a.0.0) a.0.1 (kind_first 3 rest low) t.0, t.1)

link_of_kind_taken : (k : ℕ) (rest : List ℕ) (x : Link × List ℕ) → AreBytes rest → link_of_kind k rest ≡ Ok x → LinkTaken (k ∷ rest) x
unfolding link_of_kind
link_of_kind_taken k rest x low =
    let at : (i : ℕ) → k ≡ i → LinkTaken (i ∷ rest) x → LinkTaken (k ∷ rest) x = λ i is taken. subst (λ (j : ℕ). LinkTaken (j ∷ rest) x) (sym is) taken in
    by_kind (LinkTaken (k ∷ rest) x) k 1 (set_at rest) _ x (λ is e. at 1 is (set_taken rest x low e))
    (by_kind (LinkTaken (k ∷ rest) x) k 2 (del_at rest) _ x (λ is e. at 2 is (del_taken rest x low e))
    (by_kind (LinkTaken (k ∷ rest) x) k 3 (intention_at rest) _ x (λ is e. at 3 is (intention_taken rest x low e))
    (by_kind (LinkTaken (k ∷ rest) x) k 4 (Ok (ParentMergeConfirm, rest)) _ x (λ is e. at 4 is (subst (LinkTaken (4 ∷ rest)) (ok_is (ParentMergeConfirm, rest) x e) (kind_first 4 rest low, tt)))
    (by_kind (LinkTaken (k ∷ rest) x) k 5 (Ok (ChildMergeCap, rest)) _ x (λ is e. at 5 is (subst (LinkTaken (5 ∷ rest)) (ok_is (ChildMergeCap, rest) x e) (kind_first 5 rest low, tt)))
    (no_kind x)))))

link_taken : (bytes : List ℕ) (x : Link × List ℕ) → AreBytes bytes → link_at bytes ≡ Ok x → LinkTaken bytes x
unfolding link_at
link_taken bytes x low e =
    let a = read_first (byte_at bytes) (λ kind. link_of_kind kind.0 kind.1) x e in
    let t = byte_taken bytes a.0 low a.1 in
    subst (λ (b : List ℕ). LinkTaken b x) (sym t.parts) (link_of_kind_taken a.0.0 a.0.1 x t.low a.2)

-- ---- changes

abbrev ChangeTaken : List ℕ → Change × List ℕ → Type 0
ChangeTaken bytes x = Taken bytes (change_bytes x.0) x.1 × FitsChange x.0

-- a kind and two numbers
two_numbers : (k : ℕ) (rest : List ℕ) (m n : ℕ × List ℕ) → AreBytes rest → number_at rest ≡ Ok m → number_at m.1 ≡ Ok n → Taken (k ∷ rest) (kind k ++ numbers m.0 n.0) n.1 × FitsNumber m.0 × FitsNumber n.0
two_numbers k rest m n low first second =
    let t = number_taken rest m low first in
    let u = number_taken m.1 n t.0.low second in
    (taken_then (k ∷ rest) (kind k) rest (numbers m.0 n.0) n.1 (kind_first k rest low) (taken_then rest (number m.0) m.1 (number n.0) n.1 t.0 u.0), t.1, u.1)

given_taken : (rest : List ℕ) (x : Change × List ℕ) → AreBytes rest → given_at rest ≡ Ok x → ChangeTaken (1 ∷ rest) x
unfolding given_at
given_taken rest x low e =
    let a = read_first (number_at rest) _ x e in
    let b = read_first (number_at a.0.1) _ x a.2 in
    let c = read_first (node_at b.0.1) _ x b.2 in
    let t = two_numbers 1 rest a.0 b.0 low a.1 b.1 in
    let u = node_taken b.0.1 c.0 t.0.low c.1 in
    subst (ChangeTaken (1 ∷ rest)) (ok_is (Given a.0.0 b.0.0 c.0.0, c.0.1) x c.2) (taken_then (1 ∷ rest) (kind 1 ++ numbers a.0.0 b.0.0) b.0.1 (node_bytes c.0.0) c.0.1 t.0 u.0, (t.1, t.2, u.1))

linked_taken : (rest : List ℕ) (x : Change × List ℕ) → AreBytes rest → linked_at rest ≡ Ok x → ChangeTaken (2 ∷ rest) x
unfolding linked_at
linked_taken rest x low e =
    let a = read_first (number_at rest) _ x e in
    let b = read_first (number_at a.0.1) _ x a.2 in
    let c = read_first (link_at b.0.1) _ x b.2 in
    let t = two_numbers 2 rest a.0 b.0 low a.1 b.1 in
    let u = link_taken b.0.1 c.0 t.0.low c.1 in
    subst (ChangeTaken (2 ∷ rest)) (ok_is (Linked a.0.0 b.0.0 c.0.0, c.0.1) x c.2) (taken_then (2 ∷ rest) (kind 2 ++ numbers a.0.0 b.0.0) b.0.1 (link_bytes c.0.0) c.0.1 t.0 u.0, (t.1, t.2, u.1))

freed_taken : (rest : List ℕ) (x : Change × List ℕ) → AreBytes rest → freed_at rest ≡ Ok x → ChangeTaken (3 ∷ rest) x
unfolding freed_at
freed_taken rest x low e =
    let a = read_first (number_at rest) (λ pid. Ok (Freed pid.0, pid.1)) x e in
    let t = number_taken rest a.0 low a.1 in
    subst (ChangeTaken (3 ∷ rest)) (ok_is (Freed a.0.0, a.0.1) x a.2) (taken_then (3 ∷ rest) (kind 3) rest (number a.0.0) a.0.1 (kind_first 3 rest low) t.0, t.1)

rooted_taken : (rest : List ℕ) (x : Change × List ℕ) → AreBytes rest → rooted_at rest ≡ Ok x → ChangeTaken (4 ∷ rest) x
unfolding rooted_at
rooted_taken rest x low e =
    let a = read_first (string_at rest) _ x e in
    let b = read_first (optional_at a.0.1) _ x a.2 in
    let t = string_taken rest a.0 low a.1 in
    let u = optional_taken a.0.1 b.0 t.0.low b.1 in
    let name = taken_then (4 ∷ rest) (kind 4) rest (string a.0.0) a.0.1 (kind_first 4 rest low) t.0 in
    subst (ChangeTaken (4 ∷ rest)) (ok_is (Rooted a.0.0 b.0.0, b.0.1) x b.2) (taken_then (4 ∷ rest) (kind 4 ++ string a.0.0) a.0.1 (optional b.0.0) b.0.1 name u.0, (t.1, u.1))

marked_taken : (rest : List ℕ) (x : Change × List ℕ) → AreBytes rest → marked_at rest ≡ Ok x → ChangeTaken (7 ∷ rest) x
unfolding marked_at
marked_taken rest x low e =
    let a = read_first (number_at rest) (λ upto. Ok (Marked upto.0, upto.1)) x e in
    let t = number_taken rest a.0 low a.1 in
    subst (ChangeTaken (7 ∷ rest)) (ok_is (Marked a.0.0, a.0.1) x a.2) (taken_then (7 ∷ rest) (kind 7) rest (number a.0.0) a.0.1 (kind_first 7 rest low) t.0, t.1)

limited_taken : (rest : List ℕ) (x : Change × List ℕ) → AreBytes rest → limited_at rest ≡ Ok x → ChangeTaken (8 ∷ rest) x
unfolding limited_at
limited_taken rest x low e =
    let a = read_first (number_at rest) _ x e in
    let b = read_first (number_at a.0.1) _ x a.2 in
    let t = two_numbers 8 rest a.0 b.0 low a.1 b.1 in
    subst (ChangeTaken (8 ∷ rest)) (ok_is (Limited a.0.0 b.0.0, b.0.1) x b.2) (t.0, (t.1, t.2))

change_of_kind_taken : (k : ℕ) (rest : List ℕ) (x : Change × List ℕ) → AreBytes rest → change_of_kind k rest ≡ Ok x → ChangeTaken (k ∷ rest) x
unfolding change_of_kind
change_of_kind_taken k rest x low =
    let at : (i : ℕ) → k ≡ i → ChangeTaken (i ∷ rest) x → ChangeTaken (k ∷ rest) x = λ i is taken. subst (λ (j : ℕ). ChangeTaken (j ∷ rest) x) (sym is) taken in
    let P : Type 0 = ChangeTaken (k ∷ rest) x in
    by_kind P k 1 (given_at rest) _ x (λ is e. at 1 is (given_taken rest x low e))
    (by_kind P k 2 (linked_at rest) _ x (λ is e. at 2 is (linked_taken rest x low e))
    (by_kind P k 3 (freed_at rest) _ x (λ is e. at 3 is (freed_taken rest x low e))
    (by_kind P k 4 (rooted_at rest) _ x (λ is e. at 4 is (rooted_taken rest x low e))
    (by_kind P k 5 (Ok (Begun, rest)) _ x (λ is e. at 5 is (subst (ChangeTaken (5 ∷ rest)) (ok_is (Begun, rest) x e) (kind_first 5 rest low, tt)))
    (by_kind P k 6 (Ok (Sealed, rest)) _ x (λ is e. at 6 is (subst (ChangeTaken (6 ∷ rest)) (ok_is (Sealed, rest) x e) (kind_first 6 rest low, tt)))
    (by_kind P k 7 (marked_at rest) _ x (λ is e. at 7 is (marked_taken rest x low e))
    (by_kind P k 8 (limited_at rest) _ x (λ is e. at 8 is (limited_taken rest x low e))
    (no_kind x))))))))

pub change_taken : (bytes : List ℕ) (x : Change × List ℕ) → AreBytes bytes → change_at bytes ≡ Ok x → ChangeTaken bytes x
unfolding change_at
change_taken bytes x low e =
    let a = read_first (byte_at bytes) (λ kind. change_of_kind kind.0 kind.1) x e in
    let t = byte_taken bytes a.0 low a.1 in
    subst (λ (b : List ℕ). ChangeTaken b x) (sym t.parts) (change_of_kind_taken a.0.0 a.0.1 x t.low a.2)

some_taken : (bytes : List ℕ) (most : ℕ) (cs : List Change) → AreBytes bytes → changes_from bytes most ≡ Ok cs → All FitsChange cs × (bytes ≡ flat_map change_bytes cs)
unfolding changes_from
some_taken [] most cs low e = subst (λ (l : List Change). All FitsChange l × ([] ≡ flat_map change_bytes l)) (ok_is [] cs e) (All-nil FitsChange, refl)
some_taken (b ∷ bytes) zero cs low e = absurd cc
some_taken (b ∷ bytes) (suc most) cs low e =
    let a = read_first (change_at (b ∷ bytes)) (λ first. then_read (changes_from first.1 most) (λ others. Ok (first.0 ∷ others))) cs e in
    let o = read_first (changes_from a.0.1 most) (λ others. Ok (a.0.0 ∷ others)) cs a.2 in
    let t = change_taken (b ∷ bytes) a.0 low a.1 in
    let u = some_taken a.0.1 most o.0 t.0.low o.1 in
    subst (λ (l : List Change). All FitsChange l × (b ∷ bytes ≡ flat_map change_bytes l)) (ok_is (a.0.0 ∷ o.0) cs o.2)
    (All-cons FitsChange a.0.0 o.0 t.1 u.0, t.0.parts ∙ ap (λ (r : List ℕ). change_bytes a.0.0 ++ r) u.1)

pub changes_taken : (bytes : List ℕ) (cs : List Change) → AreBytes bytes → changes_of bytes ≡ Ok cs → All FitsChange cs × (bytes ≡ flat_map change_bytes cs)
unfolding changes_of
changes_taken bytes cs low e = some_taken bytes _ cs low e
