-- Parts of chains.
use Rattle.std.proofs.Common.{◌≡◌, ℕ, List, [], ◌∷◌, ◌++◌, Option, Some, None, sym, refl, ap, ◌∙◌, subst, inl, inr, ◌⊎◌}
use Rattle.sled_store.specs.In.{In}
use Rattle.sled_nodes.specs.Order.{Key, Below, UpTo}
use Rattle.sled_store.specs.State.{Nodes}
use Rattle.sled_nodes.specs.declared.node.Node.{Node}
use Rattle.tree_laws.specs.Forest.{Run}
use Rattle.tree_laws.proofs.Order.{upto-trans, upto-refl, upto-below, below_upto-trans}

pub In-left : {A : Type 0} (xs ys : List A) (p : A) → In p xs → In p (xs ++ ys)
In-left [] ys p h = absurd h
In-left (x ∷ xs) ys p (inl e) = inl e
In-left (x ∷ xs) ys p (inr h) = inr (In-left xs ys p h)

pub In-right : {A : Type 0} (xs ys : List A) (p : A) → In p ys → In p (xs ++ ys)
In-right [] ys p h = h
In-right (x ∷ xs) ys p h = inr (In-right xs ys p h)

pub In_cases : {A : Type 0} (xs ys : List A) (p : A) → In p (xs ++ ys) → In p xs ⊎ In p ys
In_cases [] ys p h = inr h
In_cases (x ∷ xs) ys p (inl e) = inl (inl e)
In_cases (x ∷ xs) ys p (inr h) = elim (In_cases xs ys p h) [ inl a ↦ inl (inr a) | inr b ↦ inr b ]

-- a page of a list has pages before it and behind it
pub In_split : {A : Type 0} (ps : List A) (p : A) → In p ps → (xs : List A) × (ys : List A) × (ps ≡ xs ++ (p ∷ ys))
In_split [] p h = absurd h
In_split (x ∷ ps) p (inl e) = ([], ps, ap (λ y. y ∷ ps) (sym e))
In_split (x ∷ ps) p (inr h) = let s = In_split ps p h in (x ∷ s.0, s.1, ap (λ r. x ∷ r) s.2)

pub run_frame : (nodes new : Nodes) (ps : List ℕ) (from to : Option ℕ) (lo hi : Key) → ((p : ℕ) → In p ps → new p ≡ nodes p) → Run nodes ps from lo to hi → Run new ps from lo to hi
run_frame nodes new [] from to lo hi same r = r
run_frame nodes new (p ∷ ps) from to lo hi same r =
    let l = r.1 in
    (r.0, record { live = same p (inl refl) ∙ l.live; here = l.here; lo_is = l.lo_is; rises = l.rises }, run_frame nodes new ps _ to _ hi (λ q h. same q (inr h)) r.2)

pub run_parts : (nodes : Nodes) (xs ys : List ℕ) (from to : Option ℕ) (lo hi : Key) → Run nodes (xs ++ ys) from lo to hi → (mid : Option ℕ) × (key : Key) × Run nodes xs from lo mid key × Run nodes ys mid key to hi
run_parts nodes [] ys from to lo hi r = (from, lo, (refl, refl), r)
run_parts nodes (p ∷ xs) ys from to lo hi r = let s = run_parts nodes xs ys _ to _ hi r.2 in (s.0, s.1, (r.0, r.1, s.2), s.3)

pub run_join : (nodes : Nodes) (xs ys : List ℕ) (from mid to : Option ℕ) (lo key hi : Key) → Run nodes xs from lo mid key → Run nodes ys mid key to hi → Run nodes (xs ++ ys) from lo to hi
run_join nodes [] ys from mid to lo key hi r s = subst (λ f. Run nodes ys f lo to hi) (sym r.0) (subst (λ k. Run nodes ys mid k to hi) (sym r.1) s)
run_join nodes (p ∷ xs) ys from mid to lo key hi r s = (r.0, r.1, run_join nodes xs ys _ mid to _ key hi r.2 s)

-- a page that another follows has rising bounds
pub rises_more : (nodes : Nodes) (ps : List ℕ) (n : Node) (to : Option ℕ) (hi : Key) (z : ℕ) → to ≡ Some z → (n.next ≡ None) ⊎ Below n.lo n.hi → Run nodes ps n.next n.hi to hi → Below n.lo n.hi
rises_more nodes [] n to hi z is (inl e) r = let f = r.0 in cc
rises_more nodes (p ∷ ps) n to hi z is (inl e) r = let f = r.1.here in cc
rises_more nodes ps n to hi z is (inr b) r = b

pub rises_on : (nodes : Nodes) (ps : List ℕ) (n : Node) (to : Option ℕ) (hi : Key) (q : ℕ) → In q ps → (n.next ≡ None) ⊎ Below n.lo n.hi → Run nodes ps n.next n.hi to hi → Below n.lo n.hi
rises_on nodes [] n to hi q h o r = absurd h
rises_on nodes (p ∷ ps) n to hi q h (inl e) r = let f = r.1.here in cc
rises_on nodes (p ∷ ps) n to hi q h (inr b) r = b

same_node : (nodes : Nodes) (p q : ℕ) (n m : Node) → nodes p ≡ Some n → nodes q ≡ Some m → q ≡ p → n ≡ m
same_node nodes p q n m a b e = cc (a, b, e, ap nodes e)

-- each page of a run begins at or above the run's beginning
pub run_from : (nodes : Nodes) (ps : List ℕ) (from to : Option ℕ) (lo hi : Key) → Run nodes ps from lo to hi → (q : ℕ) (m : Node) → In q ps → nodes q ≡ Some m → UpTo lo m.lo
run_from nodes [] from to lo hi r q m h e = absurd h
run_from nodes (p ∷ ps) from to lo hi r q m (inl i) e =
    subst (λ k. UpTo k m.lo) (sym (r.1.lo_is ∙ ap (λ x. x.lo) (same_node nodes p q r.0 m r.1.live e i))) (upto-refl m.lo)
run_from nodes (p ∷ ps) from to lo hi r q m (inr i) e =
    let up = rises_on nodes ps r.0 to hi q i r.1.rises r.2 in
    subst (λ k. UpTo k m.lo) (sym r.1.lo_is) (upto-trans r.0.lo r.0.hi m.lo (upto-below _ _ up) (run_from nodes ps _ to _ hi r.2 q m i e))

pub run_le : (nodes : Nodes) (ps : List ℕ) (from : Option ℕ) (z : ℕ) (lo hi : Key) → Run nodes ps from lo (Some z) hi → UpTo lo hi
run_le nodes [] from z lo hi r = subst (λ k. UpTo lo k) r.1 (upto-refl lo)
run_le nodes (p ∷ ps) from z lo hi r =
    let up = rises_more nodes ps r.0 (Some z) hi z refl r.1.rises r.2 in
    subst (λ k. UpTo k hi) (sym r.1.lo_is) (upto-trans r.0.lo r.0.hi hi (upto-below _ _ up) (run_le nodes ps _ z _ hi r.2))

-- each page of a run that goes on begins below its end
pub run_to : (nodes : Nodes) (ps : List ℕ) (from : Option ℕ) (z : ℕ) (lo hi : Key) → Run nodes ps from lo (Some z) hi → (q : ℕ) (m : Node) → In q ps → nodes q ≡ Some m → Below m.lo hi
run_to nodes [] from z lo hi r q m h e = absurd h
run_to nodes (p ∷ ps) from z lo hi r q m (inl i) e =
    let up = rises_more nodes ps r.0 (Some z) hi z refl r.1.rises r.2 in
    subst (λ x. Below x.lo hi) (same_node nodes p q r.0 m r.1.live e i) (below_upto-trans r.0.lo r.0.hi hi up (run_le nodes ps _ z _ hi r.2))
run_to nodes (p ∷ ps) from z lo hi r q m (inr i) e = run_to nodes ps _ z _ hi r.2 q m i e
