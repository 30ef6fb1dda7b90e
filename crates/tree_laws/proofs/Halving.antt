-- What a node's own functions make of it is what the laws ask for: halves, joined pages, pointers.
use Rattle.std.proofs.Common.{◌≡◌, ℕ, zero, suc, ◌-◌, ◌/◌, ◌≤◌, T, List, [], ◌∷◌, ◌++◌, length, Some, sym, refl, ap, ◌∙◌, subst, inl, inr, ◌⊎◌, arith}
use Rattle.std.proofs.lemmas.List.{take-append-drop, length-take-le, length-drop}
use Rattle.std.specs.List.{AllByRecursion}
use Rattle.std.specs.FinMap.{is_sorted}
use Rattle.std.specs.FinMap.Entries.{below_all}
use Rattle.sled_nodes.proofs.Basics.{none_some, left_of, right_of, both_of, less_of}
use Rattle.sled_store.specs.In.{In}
use Rattle.sled_nodes.specs.Order.{Key, key_cmp, Below, UpTo}
use Rattle.sled_nodes.specs.Node.{Within, pointers, count}
use Rattle.sled_nodes.specs.Halves.{first_half, second_half, first_half_of, second_half_of, first_key_of, left_half, right_half, appended, after_receiving}
use Rattle.sled_nodes.specs.Halves as halves
use Rattle.sled_nodes.specs.Posting as posting
use Rattle.tree_laws.specs.theory.StageLaws.{HalvedLaw, JoinedLaw, BeforeLaw, IsHalved, IsJoined}
use Rattle.sled_nodes.specs.Among.{IsBefore}
use Rattle.sled_nodes.specs.declared.node.Node.{Node}
use Rattle.sled_nodes.specs.declared.node.Data.{Data}
use Rattle.sled_nodes.specs.declared.node.Data.TheVariants.{Leaf, Index}
use Rattle.tree_laws.specs.Forest.{Holds, IsNodeAt, first_key}
use Rattle.tree_laws.specs.Action.{AreHalvesOf, IsSplit}
use Rattle.tree_laws.specs.Snapshot.{IsOpen}
use Rattle.tree_laws.proofs.Order.{upto-refl, upto-below, upto-trans, below-trans, upto_below-trans}
use Rattle.tree_laws.proofs.Pairs.{each_weaker, each_append, under}
use Rattle.tree_laws.proofs.Reading.{sorted-append}
use Rattle.tree_laws.proofs.Runs.{In-right, In-left}

-- what is below all of a list, one by one
each_above : {X : Type 0} (k : Key) (es : List (Key × X)) → T (below_all key_cmp k es) → AllByRecursion (λ e. Below k e.0) es
each_above k [] p = tt
each_above k (e ∷ es) p = (less_of _ (left_of _ _ p), each_above k es (right_of _ _ p))

each_parts : {X : Type 0} (P : X → Type 0) (xs ys : List X) → AllByRecursion P (xs ++ ys) → AllByRecursion P xs × AllByRecursion P ys
each_parts P [] ys a = (tt, a)
each_parts P (x ∷ xs) ys a = let r = each_parts P xs ys a.1 in ((a.0, r.0), r.1)

below_parts : {X : Type 0} (k : Key) (xs ys : List (Key × X)) → T (below_all key_cmp k (xs ++ ys)) → T (below_all key_cmp k xs)
below_parts k [] ys p = tt
below_parts k (x ∷ xs) ys p = both_of _ _ (left_of _ _ p) (below_parts k xs ys (right_of _ _ p))

at_seam : {X : Type 0} (k : Key) (zs : List (Key × X)) (y : Key × X) (ys : List (Key × X)) → AllByRecursion (λ e. Below k e.0) (zs ++ y ∷ ys) → Below k y.0
at_seam k [] y ys a = a.0
at_seam k (z ∷ zs) y ys a = at_seam k zs y ys a.1

-- a sorted list in two parts: both are sorted, and the first lies below where the second begins
sorted_parts : {X : Type 0} (xs : List (Key × X)) (y : Key × X) (ys : List (Key × X)) → T (is_sorted key_cmp (xs ++ y ∷ ys)) → T (is_sorted key_cmp xs) × T (is_sorted key_cmp (y ∷ ys)) × AllByRecursion (λ e. Below e.0 y.0) xs
sorted_parts [] y ys p = (tt, p, tt)
sorted_parts (x ∷ xs) y ys p =
    let r = sorted_parts xs y ys (right_of _ _ p) in
    (both_of _ _ (below_parts x.0 xs (y ∷ ys) (left_of _ _ p)) r.0, r.1, (at_seam x.0 xs y ys (each_above x.0 (xs ++ y ∷ ys) (left_of _ _ p)), r.2))

-- the halves of a sorted list of two entries or more
record IsCut {X : Type 0} (lo hi : Key) (es : List (Key × X)) : Type 0 where
  x : Key × X
  xs : List (Key × X)
  y : Key × X
  ys : List (Key × X)
  left : first_half es ≡ x ∷ xs
  right : second_half es ≡ y ∷ ys
  is : es ≡ first_half es ++ second_half es
  left_sorted : T (is_sorted key_cmp (x ∷ xs))
  right_sorted : T (is_sorted key_cmp (y ∷ ys))
  left_within : AllByRecursion (λ e. Within lo y.0 e.0) (x ∷ xs)
  right_within : AllByRecursion (λ e. Within y.0 hi e.0) (y ∷ ys)
  apart : Below lo y.0
  within : Within lo hi y.0

cut : {X : Type 0} (lo hi : Key) (es : List (Key × X)) → 2 ≤ length es → T (is_sorted key_cmp es) → AllByRecursion (λ e. Within lo hi e.0) es → IsCut lo hi es
cut {X} lo hi es two sorted within =
    let half : ℕ = length es / 2 in
    go (first_half es) (second_half es) refl refl
    (length-take-le half es (half_le (length es)))
    (length-drop half es)
  where
    half_le : (n : ℕ) → n / 2 ≤ n
    half_le n = omega arith

    some : (n : ℕ) → 2 ≤ n → 0 ≡ n / 2 → ⊥
    some n p q = omega arith

    rest : (n : ℕ) → 2 ≤ n → 0 ≡ n - n / 2 → ⊥
    rest n p q = omega arith

    go : (a b : List (Key × X)) → first_half es ≡ a → second_half es ≡ b → length (first_half es) ≡ length es / 2 → length (second_half es) ≡ length es - length es / 2 → IsCut lo hi es
    go [] b e g p q = absurd (some (length es) two (sym (ap length e) ∙ p))
    go (x ∷ xs) [] e g p q = absurd (rest (length es) two (sym (ap length g) ∙ q))
    go (x ∷ xs) (y ∷ ys) e g p q =
        let whole : es ≡ first_half es ++ second_half es = sym (take-append-drop (length es / 2) es) in
        let parts : es ≡ (x ∷ xs) ++ y ∷ ys = whole ∙ ap (λ z. z ++ second_half es) e ∙ ap (λ z. (x ∷ xs) ++ z) g in
        let s = sorted_parts (x ∷ xs) y ys (subst (λ l. T (is_sorted key_cmp l)) parts sorted) in
        let w = each_parts (λ e. Within lo hi e.0) (x ∷ xs) (y ∷ ys) (subst (λ l. AllByRecursion (λ e. Within lo hi e.0) l) parts within) in
        record {
          x = x;
          xs = xs;
          y = y;
          ys = ys;
          left = e;
          right = g;
          is = whole;
          left_sorted = s.0;
          right_sorted = s.1;
          left_within = zip (λ e. Within lo hi e.0) (λ e. Below e.0 y.0) (λ e. Within lo y.0 e.0) (λ e a b. (a.0, inr b)) (x ∷ xs) w.0 s.2;
          right_within = ((upto-refl y.0, w.1.0.1), zip (λ e. Within lo hi e.0) (λ e. Below y.0 e.0) (λ e. Within y.0 hi e.0) (λ e a b. (upto-below y.0 e.0 b, a.1)) ys w.1.1 (each_above y.0 ys (left_of _ _ s.1)));
          apart = upto_below-trans lo x.0 y.0 w.0.0.0 s.2.0;
          within = w.1.0;
        }
      where
        zip : (P Q R : Key × X → Type 0) → ((e : Key × X) → P e → Q e → R e) → (zs : List (Key × X)) → AllByRecursion P zs → AllByRecursion Q zs → AllByRecursion R zs
        zip P Q R f [] a b = tt
        zip P Q R f (z ∷ zs) a b = (f z a.0 b.0, zip P Q R f zs a.1 b.1)

-- the halves of a node are halves, as the laws ask
pub halved : (n : Node) (q : ℕ) → 2 ≤ count n.content → IsHalved n (record (left_half n) { next = Some q }) (right_half n) q
halved n q two = record { split = λ h sound calm. go h n.content refl two sound.holds }
  where
    made : (h : ℕ) (a b : Data) (k : Key) → first_half_of n.content ≡ a → second_half_of n.content ≡ b → first_key_of (second_half_of n.content) ≡ k → Holds h n.lo k a → Holds h k n.hi b → AreHalvesOf n.content a b → Below n.lo k → Within n.lo n.hi k
        → IsSplit h n (record (left_half n) { next = Some q }) (right_half n) q
    made h a b k ea eb ek left right cut_in apart within = record {
      left_sound = record { holds = subst (λ z. Holds h n.lo (first_key_of (second_half_of n.content)) z) (sym ea) (subst (λ z. Holds h n.lo z a) (sym ek) left) };
      right_sound = record { holds = subst (λ z. Holds h (first_key_of (second_half_of n.content)) n.hi z) (sym eb) (subst (λ z. Holds h z n.hi b) (sym ek) right) };
      halves = subst (λ z. AreHalvesOf n.content z (second_half_of n.content)) (sym ea) (subst (λ z. AreHalvesOf n.content a z) (sym eb) cut_in);
      left_lo = refl;
      left_hi = refl;
      left_next = refl;
      right_hi = refl;
      right_next = refl;
      apart = subst (λ z. Below n.lo z) (sym ek) apart;
      within = subst (λ z. Within n.lo n.hi z) (sym ek) within;
      calm = (refl, refl, refl, refl);
    }

    go : (h : ℕ) (d : Data) → n.content ≡ d → 2 ≤ count d → Holds h n.lo n.hi d → IsSplit h n (record (left_half n) { next = Some q }) (right_half n) q
    go zero (Leaf es) e two s =
        let c = cut n.lo n.hi es two s.0 s.1 in
        let right_is : first_key_of (second_half_of n.content) ≡ c.y.0 = ap (λ z. first_key_of (second_half_of z)) e ∙ ap halves.first_key c.right in
        made zero (Leaf (c.x ∷ c.xs)) (Leaf (c.y ∷ c.ys)) c.y.0 (ap first_half_of e ∙ ap Leaf c.left) (ap second_half_of e ∙ ap Leaf c.right) right_is
        (c.left_sorted, c.left_within) (c.right_sorted, c.right_within)
        (subst (λ z. AreHalvesOf z (Leaf (c.x ∷ c.xs)) (Leaf (c.y ∷ c.ys))) (sym e) (c.is ∙ ap (λ z. z ++ second_half es) c.left ∙ ap (λ z. (c.x ∷ c.xs) ++ z) c.right)) c.apart c.within
    go (suc h) (Index es) e two s =
        let c = cut n.lo n.hi es two s.0 s.1 in
        let parts : es ≡ (c.x ∷ c.xs) ++ c.y ∷ c.ys = c.is ∙ ap (λ z. z ++ second_half es) c.left ∙ ap (λ z. (c.x ∷ c.xs) ++ z) c.right in
        let right_is : first_key_of (second_half_of n.content) ≡ c.y.0 = ap (λ z. first_key_of (second_half_of z)) e ∙ ap halves.first_key c.right in
        made (suc h) (Index (c.x ∷ c.xs)) (Index (c.y ∷ c.ys)) c.y.0 (ap first_half_of e ∙ ap Index c.left) (ap second_half_of e ∙ ap Index c.right) right_is
        (c.left_sorted, c.left_within, sym (ap first_key parts) ∙ s.2) (c.right_sorted, c.right_within, refl)
        (subst (λ z. AreHalvesOf z (Index (c.x ∷ c.xs)) (Index (c.y ∷ c.ys))) (sym e) parts) c.apart c.within
    go zero (Index es) e two s = absurd s
    go (suc h) (Leaf es) e two s = absurd s

-- a node with what the node behind it holds is joined, as the laws ask
pub joined : (n d : Node) → IsJoined n d (after_receiving n d)
joined n d = record {
  joined = λ h sn sd meets low up. record {
    sound = record { holds = (go h n.content d.content sn.holds sd.holds meets low up).0 };
    halves = (go h n.content d.content sn.holds sd.holds meets low up).1;
    lo = refl;
    hi = refl;
    next = refl;
    merging = refl;
    merging_child = refl;
  };
}
  where
    wider : {X : Type 0} (es : List (Key × X)) → n.hi ≡ d.lo → Below n.lo d.lo → (d.hi ≡ []) ⊎ Below d.lo d.hi → AllByRecursion (λ e. Within n.lo n.hi e.0) es → AllByRecursion (λ e. Within n.lo d.hi e.0) es
    wider es meets low up a = each_weaker (λ e. Within n.lo n.hi e.0) (λ e. Within n.lo d.hi e.0) (λ e w. (
      w.0,
      elim up [
        | inl none ↦ inl none
        | inr b ↦ inr (below-trans e.0 d.lo d.hi (subst (λ k. Below e.0 k) meets (under n.lo n.hi e.0 (subst (λ k. Below n.lo k) (sym meets) low) w)) b)
      ],
    )) es a

    later_on : {X : Type 0} (es : List (Key × X)) → Below n.lo d.lo → AllByRecursion (λ e. Within d.lo d.hi e.0) es → AllByRecursion (λ e. Within n.lo d.hi e.0) es
    later_on es low a = each_weaker (λ e. Within d.lo d.hi e.0) (λ e. Within n.lo d.hi e.0) (λ e w. (upto-trans n.lo d.lo e.0 (upto-below n.lo d.lo low) w.0, w.1)) es a

    -- what lies in n ends below where d begins
    sorted : {X : Type 0} (es fs : List (Key × X)) → n.hi ≡ d.lo → Below n.lo d.lo → T (is_sorted key_cmp es) → T (is_sorted key_cmp fs) → AllByRecursion (λ e. Within n.lo n.hi e.0) es → AllByRecursion (λ e. Within d.lo d.hi e.0) fs → T (is_sorted key_cmp (es ++ fs))
    sorted es fs meets low s u a b = sorted-append d.lo es fs s u
        (each_weaker (λ e. Within n.lo n.hi e.0) (λ e. Below e.0 d.lo) (λ e w. subst (λ k. Below e.0 k) meets (under n.lo n.hi e.0 (subst (λ k. Below n.lo k) (sym meets) low) w)) es a)
        (each_weaker (λ e. Within d.lo d.hi e.0) (λ e. UpTo d.lo e.0) (λ e w. w.0) fs b)

    first_on : (es fs : List (Key × ℕ)) → first_key es ≡ Some n.lo → first_key (es ++ fs) ≡ Some n.lo
    first_on [] fs e = none_some e
    first_on (x ∷ es) fs e = e

    go : (h : ℕ) (a b : Data) → Holds h n.lo n.hi a → Holds h d.lo d.hi b → n.hi ≡ d.lo → Below n.lo d.lo → (d.hi ≡ []) ⊎ Below d.lo d.hi → Holds h n.lo d.hi (appended a b) × AreHalvesOf (appended a b) a b
    go zero (Leaf es) (Leaf fs) s u meets low up = ((sorted es fs meets low s.0 u.0 s.1 u.1, each_append _ es fs (wider es meets low up s.1) (later_on fs low u.1)), refl)
    go (suc h) (Index es) (Index fs) s u meets low up = ((sorted es fs meets low s.0 u.0 s.1 u.1, each_append _ es fs (wider es meets low up s.1) (later_on fs low u.1), first_on es fs s.2), refl)
    go zero (Index es) b s u meets low up = absurd s
    go zero (Leaf es) (Index fs) s u meets low up = absurd u
    go (suc h) (Leaf es) b s u meets low up = absurd s
    go (suc h) (Index es) (Leaf fs) s u meets low up = absurd u

-- the pointer before one to c, and that one, stand in the index in this order
pub before_child : (h : ℕ) (n : Node) (c b : ℕ) → IsNodeAt h n → (k : IsBefore c (pointers n.content) b) → In (k.key, c) (pointers n.content) × In (k.low, b) (pointers n.content) × Below k.low k.key
before_child h n c b sound k =
    let es : List (Key × ℕ) = pointers n.content in (
      subst (λ z. In (k.key, c) z) (sym k.is) (In-right (k.front ++ (k.low, b) ∷ []) ((k.key, c) ∷ k.after) (k.key, c) (inl refl)),
      subst (λ z. In (k.low, b) z) (sym k.is) (In-left (k.front ++ (k.low, b) ∷ []) ((k.key, c) ∷ k.after) (k.low, b) (In-right k.front ((k.low, b) ∷ []) (k.low, b) (inl refl))),
      last k.front (sorted_parts (k.front ++ (k.low, b) ∷ []) (k.key, c) k.after (subst (λ z. T (is_sorted key_cmp z)) k.is (sorted_of h n.content sound.holds))).2,
    )
  where
    sorted_of : (h : ℕ) (d : Data) → Holds h n.lo n.hi d → T (is_sorted key_cmp (pointers d))
    sorted_of zero (Leaf es) s = tt
    sorted_of (suc h) (Index es) s = s.0
    sorted_of zero (Index es) s = absurd s
    sorted_of (suc h) (Leaf es) s = absurd s

    last : (xs : List (Key × ℕ)) → AllByRecursion (λ e. Below e.0 k.key) (xs ++ (k.low, b) ∷ []) → Below k.low k.key
    last [] a = a.0
    last (x ∷ xs) a = last xs a.1

-- an open node, in the words of nodes
pub opens : {n : Node} → posting.IsOpen n → IsOpen n
opens k = record { not_merging = k.0; free = k.1 }

pub halved_law : HalvedLaw
halved_law = halved

pub joined_law : JoinedLaw
joined_law = joined

pub before_law : BeforeLaw
before_law = before_child
