-- The pointer before the merging child's, and the pointer that a bound leads to.
use Rattle.std.proofs.Common.{◌≡◌, ◌≢◌, ℕ, suc, Bool, true, false, ◌||◌, nat_eq, List, [], ◌∷◌, ◌++◌, Some, sym, refl, ap, ◌∙◌, subst, inl, inr, append_assoc, arith}
use Rattle.std.proofs.lemmas.Bool.{eqb-true, or_from}
use Rattle.std.proofs.lemmas.List.Recursion.{or_push}
use Rattle.std.proofs.lemmas.Bool.Decides.{nat_tests}
use Rattle.std.specs.List.{list_any}
use Rattle.sled_nodes.proofs.Basics.{none_some, some_is, false_true}
use Rattle.sled_store.specs.In.{In}
use Rattle.sled_nodes.specs.Order.{Key, Below}
use Rattle.sled_nodes.specs.Node.{pointers}
use Rattle.sled_nodes.specs.Among.{IsBefore, is_up_to}
use Rattle.sled_nodes.specs.declared.node.Node.{Node}
use Rattle.sled_nodes.specs.declared.node.Data.{Data}
use Rattle.sled_nodes.specs.declared.node.Data.TheVariants.{Leaf, Index}
use Rattle.tree_laws.specs.Forest.{place, Holds, later}
use Rattle.tree_laws.specs.theory.StageLaws.{BeforeChildLaw, LeadsDownLaw}
use Rattle.tree_laws.proofs.Order.{below_irrefl}
use Rattle.tree_laws.proofs.Cover.{holds_at, later_in, later_above}
use Rattle.tree_laws.proofs.Known.{sound_at}
use Rattle.tree_laws.proofs.Looking.{pointer_in}
use Rattle.tree_laws.proofs.Halving.{before_child}

other_child : (c d : ℕ) → d ≢ c → nat_eq d c ≡ false
other_child c d e = grind (arith, nat_tests)

any_append : {X : Type 0} (test : X → Bool) (xs : List X) (y : X) → list_any test xs ≡ false → test y ≡ false → list_any test (xs ++ y ∷ []) ≡ false
any_append test xs y p q = or_push (list_any test) test refl (λ x xs. refl) xs y ∙ or_from _ _ p q

-- where a later pointer leads to c, and those up to here do not, there is one just before the first to c
find_before : (k : Key) (c : ℕ) (front : List (Key × ℕ)) (p : Key × ℕ) (rest : List (Key × ℕ)) → list_any (λ e. nat_eq e.1 c) (front ++ p ∷ []) ≡ false → In (k, c) rest → (b : ℕ) × IsBefore c (front ++ p ∷ rest) b
find_before k c front p [] none i = absurd i
find_before k c front p (y ∷ ys) none i = go (nat_eq y.1 c) refl (λ off. find_before k c (front ++ p ∷ []) y ys (any_append (λ e. nat_eq e.1 c) (front ++ p ∷ []) y none off))
  where
    not_here : nat_eq y.1 c ≡ false → In (k, c) (y ∷ ys) → In (k, c) ys
    not_here off (inl e) = false_true (sym off ∙ ap (λ (z : Key × ℕ). nat_eq z.1 c) (sym e) ∙ itself)
      where
        itself : nat_eq c c ≡ true
        itself = grind (arith, nat_tests)
    not_here off (inr j) = j

    go : (b : Bool) → nat_eq y.1 c ≡ b → (nat_eq y.1 c ≡ false → In (k, c) ys → (b : ℕ) × IsBefore c ((front ++ p ∷ []) ++ y ∷ ys) b) → (b : ℕ) × IsBefore c (front ++ p ∷ (y ∷ ys)) b
    go true e more = (
      p.1,
      record {
        front = front;
        low = p.0;
        key = y.0;
        after = ys;
        is = sym (append_assoc front (p ∷ []) (y ∷ ys)) ∙ ap (λ z. (front ++ p ∷ []) ++ (y.0, z) ∷ ys) (eqb-true y.1 c e);
        none = none;
      },
    )
    go false e more = let r = more e (not_here e i) in (r.0, subst (λ z. IsBefore c z r.0) (append_assoc front (p ∷ []) (y ∷ ys)) r.1)

-- a merging child has a pointer before its own, which leads into the chain
pub before_child_law : BeforeChildLaw
before_child_law nodes roots w f t h p n c i live is = (has, λ b k. stands b k)
  where
    child : (k : Key) × In (k, c) (later (pointers n.content))
    child = f.child (place t (suc h)) p n i live c is

    holds : Holds (suc h) n.lo n.hi n.content
    holds = holds_at f (place t (suc h)) p n i live

    -- the first pointer does not lead to the child
    first_off : (x : Key × ℕ) (es : List (Key × ℕ)) → n.content ≡ Index (x ∷ es) → x.1 ≢ c
    first_off x es e g =
        let s : Holds (suc h) n.lo n.hi (Index (x ∷ es)) = subst (λ d. Holds (suc h) n.lo n.hi d) e holds in
        let lo_is : x.0 ≡ n.lo = some_is s.2 in
        let a = f.pointer t h p n i live x.0 x.1 (subst (λ d. In (x.0, x.1) (pointers d)) (sym e) (inl refl)) in
        let b = f.pointer t h p n i live child.0 c (later_in n.content child.0 c child.1) in
        let same : x.0 ≡ child.0 = sym a.key ∙ ap (λ (z : Node). z.lo) (some_is (sym a.live ∙ ap nodes g ∙ b.live)) ∙ b.key in
        below_irrefl n.lo (subst (λ z. Below n.lo z) (sym same ∙ lo_is) (later_above h n.lo n.hi n.content holds child.0 c child.1))

    has : (b : ℕ) × IsBefore c (pointers n.content) b
    has = go n.content refl holds child.1
      where
        go : (d : Data) → n.content ≡ d → Holds (suc h) n.lo n.hi d → In (child.0, c) (later (pointers d)) → (b : ℕ) × IsBefore c (pointers d) b
        go (Leaf es) e s j = absurd s
        go (Index []) e s j = absurd j
        go (Index (x ∷ es)) e s j = find_before child.0 c [] x es (ap (λ b. b || false) (other_child c x.1 (first_off x es e))) j

    stands : (b : ℕ) → (k : IsBefore c (pointers n.content) b) → (d : Node) × In b (w.chain (place t h)) × (nodes b ≡ Some d) × (d.lo ≡ k.low) × Below k.low k.key
    stands b k =
        let o = before_child (suc h) n c b (sound_at f (place t (suc h)) p n i live) k in
        let off : b ≢ c = λ g.
        let u = f.pointer t h p n i live k.low b o.1 in
        let v = f.pointer t h p n i live k.key c o.0 in
        below_irrefl k.low (subst (λ z. Below k.low z) (sym v.key ∙ ap (λ (z : Node). z.lo) (some_is (sym v.live ∙ ap nodes (sym g) ∙ u.live)) ∙ u.key) o.2) in
        let r = pointer_in f t h p n k.low b i live o.1 (λ e. off (some_is (sym e ∙ is))) in
        (r.0, r.1, r.2, r.3, o.2)

-- an index whose lo is within the bound has a pointer within it
pub leads_down_law : LeadsDownLaw
leads_down_law h n bound es sound index within = go es (subst (λ d. Holds (suc h) n.lo n.hi d) index sound.holds)
  where
    go : (es : List (Key × ℕ)) → Holds (suc h) n.lo n.hi (Index es) → list_any (λ e. is_up_to bound e.0) es ≡ true
    go [] s = none_some s.2
    go (x ∷ es) s = ap (λ b. b || list_any (λ e. is_up_to bound e.0) es) (ap (is_up_to bound) (some_is s.2) ∙ within)
