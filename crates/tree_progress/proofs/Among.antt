-- The pages that the pointers of a level lead to, and the merging children of its pages.
use Rattle.std.proofs.Common.{◌≡◌, ℕ, Bool, true, false, ◌||◌, nat_eq, map, flat_map, List, [], ◌∷◌, Option, Some, None, option_to_list, sym, refl, ap, ◌∙◌, subst, inl, inr, arith}
use Rattle.std.proofs.lemmas.Bool.Decides.{nat_tests}
use Rattle.sled_nodes.proofs.Basics.{false_true, or_true}
use Rattle.sled_nodes.specs.Node.{pointers}
use Rattle.sled_nodes.specs.Order.{Key}
use Rattle.sled_store.specs.In.{In}
use Rattle.sled_store.specs.State.{Nodes}
use Rattle.sled_nodes.specs.declared.node.Node.{Node}
use Rattle.tree_laws.proofs.Runs.{In-left, In-right, In_cases}
use Rattle.tree_progress.specs.ToDo.{is_in, led_to, merges, pointed, children}

pub in_of : (q : ℕ) (ps : List ℕ) → is_in q ps ≡ true → In q ps
in_of q [] e = false_true e
in_of q (p ∷ ps) e = go (nat_eq q p) refl e (in_of q ps)
  where
    same : nat_eq q p ≡ true → q ≡ p
    same h = grind (arith, nat_tests)

    go : (b : Bool) → nat_eq q p ≡ b → (b || is_in q ps) ≡ true → (is_in q ps ≡ true → In q ps) → In q (p ∷ ps)
    go true h g more = inl (same h)
    go false h g more = inr (more g)

pub of_in : (q : ℕ) (ps : List ℕ) → In q ps → is_in q ps ≡ true
of_in q [] i = absurd i
of_in q (p ∷ ps) (inl e) = ap (λ b. b || is_in q ps) same
  where
    same : nat_eq q p ≡ true
    same = grind (arith, nat_tests)
of_in q (p ∷ ps) (inr i) = ap (λ b. nat_eq q p || b) (of_in q ps i) ∙ or_true (nat_eq q p)

pub not_in : (q : ℕ) (ps : List ℕ) → ¬ (In q ps) → is_in q ps ≡ false
not_in q ps out = go (is_in q ps) refl
  where
    go : (b : Bool) → is_in q ps ≡ b → b ≡ false
    go false e = refl
    go true e = absurd (out (in_of q ps e))

-- a page that is in both lists or in none is found alike
pub in_alike : (q : ℕ) (ps rs : List ℕ) → (In q rs → In q ps) → (In q ps → In q rs) → is_in q rs ≡ is_in q ps
in_alike q ps rs a b = go (is_in q ps) refl
  where
    go : (v : Bool) → is_in q ps ≡ v → is_in q rs ≡ v
    go true e = of_in q rs (b (in_of q ps e))
    go false e = not_in q rs (λ i. false_true (sym e ∙ of_in q ps (a i)))

-- what a function of pages gives along a list
pub gathers : (f : ℕ → List ℕ) (ps : List ℕ) (p q : ℕ) → In p ps → In q (f p) → In q (flat_map f ps)
gathers f [] p q i j = absurd i
gathers f (x ∷ ps) p q (inl e) j = In-left (f x) _ q (subst (λ z. In q (f z)) e j)
gathers f (x ∷ ps) p q (inr i) j = In-right (f x) _ q (gathers f ps p q i j)

pub gathered : (f : ℕ → List ℕ) (ps : List ℕ) (q : ℕ) → In q (flat_map f ps) → (p : ℕ) × In p ps × In q (f p)
gathered f [] q i = absurd i
gathered f (x ∷ ps) q i = elim (In_cases (f x) _ q i) [
  | inl a ↦ (x, inl refl, a)
  | inr a ↦ let b = gathered f ps q a in (b.0, inr b.1, b.2)
]

led_in : (es : List (Key × ℕ)) (k : Key) (c : ℕ) → In (k, c) es → In c (map (λ (e : Key × ℕ). e.1) es)
led_in [] k c i = absurd i
led_in (e ∷ es) k c (inl g) = inl (ap (λ (z : Key × ℕ). z.1) g)
led_in (e ∷ es) k c (inr i) = inr (led_in es k c i)

led_by : (es : List (Key × ℕ)) (c : ℕ) → In c (map (λ (e : Key × ℕ). e.1) es) → (k : Key) × In (k, c) es
led_by [] c i = absurd i
led_by (e ∷ es) c (inl g) = (e.0, inl (λ i. (e.0, g i)))
led_by (e ∷ es) c (inr i) = let b = led_by es c i in (b.0, inr b.1)

-- a page that a pointer of the level leads to
pub record IsPointed (nodes : Nodes) (above : List ℕ) (q : ℕ) : Type 0 where
  pub page : ℕ
  pub among : In page above
  pub node : Node
  pub live : nodes page ≡ Some node
  pub key : Key
  pub pointer : In (key, q) (pointers node.content)

pub pointed_in : {nodes : Nodes} {above : List ℕ} {q : ℕ} → IsPointed nodes above q → In q (pointed nodes above)
pointed_in {nodes} {above} {q} k = gathers (λ p. led_to (nodes p)) above k.page q k.among (subst (λ o. In q (led_to o)) (sym k.live) (led_in _ k.key q k.pointer))

pub pointed_by : (nodes : Nodes) (above : List ℕ) (q : ℕ) → In q (pointed nodes above) → IsPointed nodes above q
pointed_by nodes above q i =
    let b = gathered (λ p. led_to (nodes p)) above q i in
    go b.0 b.1 (nodes b.0) refl b.2
  where
    go : (p : ℕ) → In p above → (o : Option Node) → nodes p ≡ o → In q (led_to o) → IsPointed nodes above q
    go p j None e i = absurd i
    go p j (Some n) e i = let b = led_by (pointers n.content) q i in record { page = p; among = j; node = n; live = e; key = b.0; pointer = b.1 }

-- the merging child of a page of the level
pub record IsChildOf (nodes : Nodes) (above : List ℕ) (q : ℕ) : Type 0 where
  pub page : ℕ
  pub among : In page above
  pub node : Node
  pub live : nodes page ≡ Some node
  pub child : node.merging_child ≡ Some q

pub child_in : {nodes : Nodes} {above : List ℕ} {q : ℕ} → IsChildOf nodes above q → In q (children nodes above)
child_in {nodes} {above} {q} k = gathers (λ p. merges (nodes p)) above k.page q k.among (subst (λ o. In q (merges o)) (sym k.live) (subst (λ o. In q (option_to_list o)) (sym k.child) (inl refl)))

pub child_by : (nodes : Nodes) (above : List ℕ) (q : ℕ) → In q (children nodes above) → IsChildOf nodes above q
child_by nodes above q i =
    let b = gathered (λ p. merges (nodes p)) above q i in
    go b.0 b.1 (nodes b.0) refl b.2
  where
    has : (o : Option ℕ) → In q (option_to_list o) → o ≡ Some q
    has None i = absurd i
    has (Some c) (inl e) = ap Some (sym e)
    has (Some c) (inr i) = absurd i

    go : (p : ℕ) → In p above → (o : Option Node) → nodes p ≡ o → In q (merges o) → IsChildOf nodes above q
    go p j None e i = absurd i
    go p j (Some n) e i = record { page = p; among = j; node = n; live = e; child = has n.merging_child i }
