-- From leaf to leaf, to the left.
use Rattle.std.proofs.Common.{◌≡◌, ◌≢◌, ℕ, zero, suc, ◌+◌, ◌*◌, ◌<◌, ◌≤◌, true, false, List, [], ◌∷◌, ◌++◌, length, Option, Some, None, sym, refl, ap, ◌∙◌, subst, inl, inr, append_assoc, length-append, arith}
use Rattle.std.proofs.lemmas.Nat.{mul-le}
use Rattle.std.proofs.Math.Nat.{suc-mul}
use Rattle.std.specs.List.{list_any}
use Rattle.std.specs.Ordering.{is_lt, is_gt, ordering_reverse}
use Rattle.std.specs.declared.cmp.Ordering.{Ordering}
use Rattle.std.specs.declared.cmp.Ordering.TheVariants.{Less, Equal, Greater}
use Rattle.std.specs.declared.ops.Bound.{Bound}
use Rattle.std.specs.declared.ops.Bound.TheVariants.{Excluded}
use Rattle.sled_nodes.proofs.Basics.{true_false, is_less, key_total}
use Rattle.sled_nodes.specs.Order.{Key, key_cmp, Below, UpTo}
use Rattle.sled_store.specs.In.{In}
use Rattle.sled_nodes.specs.Among.{is_up_to, IsLast, IsPredecessor}
use Rattle.sled_nodes.specs.Node.{pairs}
use Rattle.sled_store.specs.State.{State, Nodes, nodes_of}
use Rattle.sled_store.specs.Store.{Store, now, AreGiven}
use Rattle.sled_nodes.specs.declared.node.Node.{Node}
use Rattle.sled_store.specs.declared.page.View.{View}
use Rattle.sled_nodes.specs.declared.error.Error.{Error}
use Rattle.sled_nodes.specs.declared.error.Error.TheVariants.{CollectionNotFound, Unsupported, ReportableBug, Io, Corruption, NoMemory, Closed}
use Rattle.tree_laws.specs.Forest.{Tree, Forest, place, WellFormed, contents}
use Rattle.tree_laws.specs.Paths.{tree_pages, pages_below}
use Rattle.tree_laws.proofs.Cover.{parted}
use Rattle.tree_laws.proofs.Order.{upto-trans, below_not_upto, beyond, least}
use Rattle.tree_laws.proofs.Runs.{In-right, run_from, In_cases}
use Rattle.tree_laws.proofs.Looking.{pages_law}
use Rattle.tree_laws.proofs.Reading.{range_law}
use Rattle.tree_reads.specs.Walk.{IsLeafFor, HasTooMany, RefusesWalk, refuses_walk_as, once, for_each}
use Rattle.tree_reads.specs.Leaves.{OfContents, SeeksBack}
use Rattle.tree_reads.specs.declared.TheConstants.{MOST_PAGES}
use Rattle.tree_reads.proofs.Turning.{lower}
use Rattle.tree_reads.proofs.Seeking.{node_at, none_of, none_at, all_at, none_join}

-- an upper bound that is the key of the last pair, excluded
pub nearer : (hi : Bound Key) (k e : Key) → is_up_to hi k ≡ true → is_up_to hi e ≡ false → is_up_to (Excluded k) e ≡ false
nearer hi k e p q = go (key_cmp e k) refl
  where
    go : (o : Ordering) → key_cmp e k ≡ o → is_lt (key_cmp e k) ≡ false
    go Less b = true_false (sym (lower hi e k b p) ∙ q)
    go Equal b = ap is_lt b
    go Greater b = ap is_lt b

-- not below is at or above
pub not_below : (a b : Key) → is_lt (key_cmp a b) ≡ false → UpTo b a
not_below a b off = go (key_cmp b a) refl
  where
    go : (o : Ordering) → key_cmp b a ≡ o → is_gt (key_cmp b a) ≡ false
    go Less e = ap is_gt e
    go Equal e = ap is_gt e
    go Greater e = true_false (sym (ap is_lt (key_total.antisymm a b ∙ ap ordering_reverse e)) ∙ off)

more_below : (w : Forest) (t : Tree) (h : ℕ) → length (w.chain (place t 0)) ≤ pages_below w t (suc h)
more_below w t zero = step (length (w.chain (place t 0)))
  where
    step : (a : ℕ) → a ≤ a + 0
    step a = omega arith
more_below w t (suc h) = let m = more_below w t h in step (length (w.chain (place t 0))) (pages_below w t (suc h)) (length (w.chain (place t (suc h)))) m
  where
    step : (a b c : ℕ) → a ≤ b → a ≤ c + b
    step a b c e = omega arith

-- a leaf's place and a walk to each leaf before it
fits : (n l b : ℕ) → suc b ≤ n → l ≤ n → l + b * n ≤ n * n
fits n l b h e = go (suc b * n) (b * n) (n * n) (suc-mul b n) (mul-le (suc b) n n n h (same n)) e
  where
    same : (a : ℕ) → a ≤ a
    same a = omega arith

    go : (x y z : ℕ) → x ≡ y + n → x ≤ z → l ≤ n → l + y ≤ z
    go x y z p q r = omega arith

pub back_anew : (s : State) (root : ℕ) (hi : Bound Key) (v : View) (looked : ℕ) → SeeksBack s root hi v looked → SeeksBack s root hi v 0
back_anew s root hi v looked k = record {
  read = k.read;
  is = λ w f t is. let a = k.is w f t is in (a.0, a.1, a.2, weaker looked (length a.0 * tree_pages s t) (tree_pages s t * tree_pages s t) a.3, a.4);
}
  where
    weaker : (l b m : ℕ) → l + b ≤ m → 0 + b ≤ m
    weaker l b m h = omega arith

pub back_on : (s : State) (root : ℕ) (hi : Bound Key) (v : View) (looked : ℕ) → SeeksBack s root hi v looked → (x : Key) → is_up_to hi x ≡ true → SeeksBack s root (Excluded x) v looked
back_on s root hi v looked k x p = record {
  read = k.read;
  is = λ w f t is. let a = k.is w f t is in (a.0, a.1, a.2, a.3, λ e i n u. nearer hi x e.0 p (a.4 e i n u));
}

pub back_first : (s : Store) (root : ℕ) (hi : Bound Key) (v : View) (looked : ℕ) → AreGiven s → IsLeafFor (now s) root hi 0 v looked → SeeksBack (now s) root hi v looked
back_first s root hi v looked given leaf = record {
  read = record { live = leaf.live; below = given.numbered };
  is = λ w f t is.
      let k = leaf.is w f t is in
      let l = pages_law (now s) w f given.numbered t root is in
      let c = ap length k.2.is ∙ length-append k.2.before (v.pid ∷ k.2.behind) in
      let m = more_below w t l.0 in (
        k.2.before,
        k.2.behind,
        k.2.is,
        fits (tree_pages (now s) t) looked (length k.2.before) (placed _ _ _ (length k.2.behind) _ c m l.2) (short k.1 _ looked _ k.2.count k.3),
        λ e i n u. elim k.0.ends [ inl z ↦ absurd (n z) | inr z ↦ beyond hi v.node.hi e.0 u z ],
      );
}
  where
    placed : (l p b r n : ℕ) → l ≡ b + suc r → l ≤ p → n ≡ p → suc b ≤ n
    placed l p b r n c m e = omega arith

    short : (a b l n : ℕ) → a ≡ suc b + 0 → a + l ≤ n + 0 + 1 → l ≤ n
    short a b l n c h = omega arith

-- two places in a list
shorter : {X : Type 0} (xs us : List X) (y u : X) (ys vs : List X) → xs ++ y ∷ ys ≡ us ++ u ∷ vs → (In u (y ∷ ys) → ⊥) → length us < length xs
shorter [] [] y u ys vs e off = absurd (off (inl (sym (first e))))
  where
    first : y ∷ ys ≡ u ∷ vs → y ≡ u
    first e = cc
shorter [] (z ∷ us) y u ys vs e off = absurd (off (inr (subst (λ l. In u l) (sym (rest e)) (In-right us (u ∷ vs) u (inl refl)))))
  where
    rest : y ∷ ys ≡ z ∷ (us ++ u ∷ vs) → ys ≡ us ++ u ∷ vs
    rest e = cc
shorter (x ∷ xs) [] y u ys vs e off = positive (length xs)
  where
    positive : (n : ℕ) → 0 < suc n
    positive n = omega arith
shorter (x ∷ xs) (z ∷ us) y u ys vs e off = more (length us) (length xs) (shorter xs us y u ys vs (rest e) off)
  where
    rest : x ∷ (xs ++ y ∷ ys) ≡ z ∷ (us ++ u ∷ vs) → xs ++ y ∷ ys ≡ us ++ u ∷ vs
    rest e = cc

    more : (a b : ℕ) → a < b → suc a < suc b
    more a b h = omega arith

pub chain_at : (w : Forest) (t : Tree) (p : ℕ) (xs ys : List ℕ) → w.chain (place t 0) ≡ xs ++ p ∷ ys → In p (w.chain (place t 0))
chain_at w t p xs ys e = subst (λ l. In p l) (sym e) (In-right xs (p ∷ ys) p (inl refl))

-- pages from a place of a chain on begin at or above its lo
from_here : (nodes : Nodes) (roots : Tree → Option ℕ) (w : Forest) → WellFormed nodes roots w → (t : Tree) (p : ℕ) (n : Node) (xs ys : List ℕ) → w.chain (place t 0) ≡ xs ++ p ∷ ys → nodes p ≡ Some n → (q : ℕ) (m : Node) → In q (p ∷ ys) → nodes q ≡ Some m → UpTo n.lo m.lo
from_here nodes roots w f t p n xs ys e live q m i there =
    let r = parted f (place t 0) p n xs ys e live in
    run_from nodes (p ∷ ys) (Some p) None n.lo [] (n, record { live = live; here = refl; lo_is = refl; rises = r.1 }, r.2) q m i there

-- the first leaf has no lo
first_low : (nodes : Nodes) (roots : Tree → Option ℕ) (w : Forest) → WellFormed nodes roots w → (t : Tree) (p : ℕ) (n : Node) (ys : List ℕ) → w.chain (place t 0) ≡ p ∷ ys → nodes p ≡ Some n → n.lo ≡ []
first_low nodes roots w f t p n ys e live = sym (parted f (place t 0) p n [] ys e live).0.1

pub refuses_more : (of up : ℕ → ℕ) (s : Store) (root : ℕ) (e : Error) → ((w : Forest) → WellFormed (nodes_of (now s)) (now s).roots w → (t : Tree) → (now s).roots t ≡ Some root → of (tree_pages (now s) t) ≤ up (tree_pages (now s) t)) → RefusesWalk of s root e → RefusesWalk up s root e
refuses_more of up s root e more r = record { is = go e r.is }
  where
    chain : (a b c : ℕ) → a ≤ b → b ≤ c → a ≤ c
    chain a b c h g = omega arith

    go : (e : Error) → refuses_walk_as of s root e → refuses_walk_as up s root e
    go NoMemory k = tt
    go (Io fault) k = k
    go (ReportableBug text) k = (k.0, λ w f t is. chain MOST_PAGES (of (tree_pages (now s) t)) (up (tree_pages (now s) t)) (k.1 w f t is) (more w f t is))
    go (CollectionNotFound name) k = absurd k
    go (Unsupported text) k = absurd k
    go (Corruption fault) k = absurd k
    go Closed k = absurd k

-- a walk from nothing looked at
pub refuses_once : (s : Store) (root : ℕ) (e : Error) → RefusesWalk (λ pages. pages + 0) s root e → RefusesWalk once s root e
refuses_once s root e r = refuses_more (λ pages. pages + 0) once s root e (λ w f t is. same (tree_pages (now s) t)) r
  where
    same : (a : ℕ) → a + 0 ≤ a
    same a = omega arith

pub refuses_back : (s : Store) (root : ℕ) (e : Error) → RefusesWalk (λ pages. pages + 0) s root e → RefusesWalk for_each s root e
refuses_back s root e r = refuses_more (λ pages. pages + 0) for_each s root e (λ w f t is. square (tree_pages (now s) t)) r
  where
    square : (a : ℕ) → a + 0 ≤ a * a
    square zero = omega arith
    square (suc a) = go (suc a * suc a) (a * suc a) (suc-mul a (suc a))
      where
        go : (x y : ℕ) → x ≡ y + suc a → suc a + 0 ≤ x
        go x y e = omega arith

module _ (s : State) (root : ℕ) (hi : Bound Key) (v : View) (looked : ℕ) (k : SeeksBack s root hi v looked) where
  -- the pairs at or above the leaf's lo are without the bound, where none of its own is within
  passed : list_any (λ e. is_up_to hi e.0) (pairs v.node.content) ≡ false → (w : Forest) (f : WellFormed (nodes_of s) s.roots w) (t : Tree) (is : s.roots t ≡ Some root) (e : Key × Key) → In e (contents (nodes_of s) w t) → UpTo v.node.lo e.0 → is_up_to hi e.0 ≡ false
  passed none w f t is e i up =
      let a = k.is w f t is in
      let r = range_law (nodes_of s) s.roots w f t v.pid v.node (chain_at w t v.pid a.0 a.1 a.2) (node_at s v k.read.live) in
      elim (In_cases r.0 (pairs v.node.content ++ r.1) e (subst (λ l. In e l) r.2 i)) [
        | inl j ↦ absurd (below_not_upto e.0 v.node.lo (all_at (λ e. Below e.0 v.node.lo) r.0 e j r.3) up)
        | inr j ↦ elim (In_cases (pairs v.node.content) r.1 e j) [
          | inl u ↦ none_at (λ e. is_up_to hi e.0) (pairs v.node.content) e u none
          | inr u ↦ let b = all_at (λ e. (v.node.hi ≢ []) × UpTo v.node.hi e.0) r.1 e u r.5 in a.4 e i b.0 b.1
        ]
      ]

  pub back_found : (x : Key × Key) → IsLast (λ e. is_up_to hi e.0) (pairs v.node.content) x → OfContents s root (λ all. IsPredecessor hi all (Some x))
  back_found x last = record {
    is = λ w f t is.
        let a = k.is w f t is in
        let r = range_law (nodes_of s) s.roots w f t v.pid v.node (chain_at w t v.pid a.0 a.1 a.2) (node_at s v k.read.live) in record {
          before = r.0 ++ last.before;
          after = last.after ++ r.1;
          is = r.2 ∙ ap (λ z. r.0 ++ (z ++ r.1)) last.is ∙ ap (λ z. r.0 ++ z) (append_assoc last.before (x ∷ last.after) r.1) ∙ sym (append_assoc r.0 last.before (x ∷ (last.after ++ r.1)));
          passed = last.passed;
          none = none_join (λ e. is_up_to hi e.0) last.after r.1 last.none (none_of (λ e. is_up_to hi e.0) r.1 (λ e i. let b = all_at (λ e. (v.node.hi ≢ []) × UpTo v.node.hi e.0) r.1 e i r.5 in
              a.4 e (subst (λ l. In e l) (sym r.2) (In-right r.0 (pairs v.node.content ++ r.1) e (In-right (pairs v.node.content) r.1 e i))) b.0 b.1));
        };
  }

  pub back_none : list_any (λ e. is_up_to hi e.0) (pairs v.node.content) ≡ false → v.node.lo ≡ [] → OfContents s root (λ all. IsPredecessor hi all None)
  back_none none low = record {
    is = λ w f t is. none_of (λ e. is_up_to hi e.0) (contents (nodes_of s) w t) (λ e i. passed none w f t is e i (subst (λ z. UpTo z e.0) (sym low) (least e.0)));
  }

  pub back_more : (u : View) (count : ℕ) → list_any (λ e. is_up_to hi e.0) (pairs v.node.content) ≡ false → IsLeafFor s root (Excluded v.node.lo) looked u count → SeeksBack s root hi u count
  back_more u count none leaf = record {
    read = record { live = leaf.live; below = k.read.below };
    is = λ w f t is.
        let a = k.is w f t is in
        let b = leaf.is w f t is in
        let off : In u.pid (v.pid ∷ a.1) → ⊥ = λ i. below_not_upto u.node.lo v.node.lo (is_less _ b.0.begins) (from_here (nodes_of s) s.roots w f t v.pid v.node a.0 a.1 a.2 (node_at s v k.read.live) u.pid u.node i (node_at s u leaf.live)) in
        let c = shorter a.0 b.2.before v.pid u.pid a.1 b.2.behind (sym a.2 ∙ b.2.is) off in (
          b.2.before,
          b.2.behind,
          b.2.is,
          fewer (tree_pages s t) looked count b.1 (length b.2.behind) (length b.2.before) (length a.0) b.2.count b.3 c a.3,
          λ e i n up. elim b.0.ends [
            | inl z ↦ absurd (n z)
            | inr z ↦ passed none w f t is e i (upto-trans v.node.lo u.node.hi e.0 (not_below u.node.hi v.node.lo z) up)
          ],
        );
  }
    where
      fewer : (n l c a r b d : ℕ) → a ≡ suc r + 0 → a + c ≤ n + l + 1 → b < d → l + d * n ≤ n * n → c + b * n ≤ n * n
      fewer n l c a r b d e h g m = go (suc b * n) (b * n) (d * n) (n * n) (suc-mul b n) (mul-le (suc b) n d n (next b d g) (same n)) m e h
        where
          same : (a : ℕ) → a ≤ a
          same a = omega arith

          next : (b d : ℕ) → b < d → suc b ≤ d
          next b d g = omega arith

          go : (x y z m : ℕ) → x ≡ y + n → x ≤ z → l + z ≤ m → a ≡ suc r + 0 → a + c ≤ n + l + 1 → c + y ≤ m
          go x y z m p q o e h = omega arith

  -- a walk to the leaf before is given up
  pub back_gives_up : v.node.lo ≢ [] → (w : Forest) → WellFormed (nodes_of s) s.roots w → (t : Tree) → s.roots t ≡ Some root → tree_pages s t + looked ≤ tree_pages s t * tree_pages s t
  back_gives_up low w f t is = let a = k.is w f t is in go a.0 a.1 a.2 a.3
    where
      go : (before behind : List ℕ) → w.chain (place t 0) ≡ before ++ v.pid ∷ behind → looked + length before * tree_pages s t ≤ tree_pages s t * tree_pages s t → tree_pages s t + looked ≤ tree_pages s t * tree_pages s t
      go [] behind e h = absurd (low (first_low (nodes_of s) s.roots w f t v.pid v.node behind e (node_at s v k.read.live)))
      go (x ∷ xs) behind e h = fit (tree_pages s t) looked (suc (length xs) * tree_pages s t) (length xs * tree_pages s t) (tree_pages s t * tree_pages s t) (suc-mul (length xs) (tree_pages s t)) h
        where
          fit : (n l x y m : ℕ) → x ≡ y + n → l + x ≤ m → n + l ≤ m
          fit n l x y m e h = omega arith

  -- the same, of the node as it is read there
  module _ (n : Node) (same : n ≡ v.node) (found : Option (Key × Key)) (nearest : IsPredecessor hi (pairs n.content) found) where
    pub found_back : (x : Key × Key) → found ≡ Some x → OfContents s root (λ all. IsPredecessor hi all (Some x))
    found_back x is = back_found x (subst (λ (z : Node). IsPredecessor hi (pairs z.content) (Some x)) same (subst (IsPredecessor hi (pairs n.content)) is nearest))

    none_back : found ≡ None → list_any (λ e. is_up_to hi e.0) (pairs v.node.content) ≡ false
    none_back is = subst (λ (z : Node). IsPredecessor hi (pairs z.content) None) same (subst (IsPredecessor hi (pairs n.content)) is nearest)

    pub ends_back : found ≡ None → (m : Node) → m ≡ v.node → length m.lo ≡ 0 → OfContents s root (λ all. IsPredecessor hi all None)
    ends_back is m at low = back_none (none_back is) (ap (λ (z : Node). z.lo) (sym at) ∙ empty m.lo low)
      where
        empty : (k : Key) → length k ≡ 0 → k ≡ []
        empty [] e = refl
        empty (x ∷ xs) e = absurd (no (length xs) e)
          where
            no : (a : ℕ) → suc a ≡ 0 → ⊥
            no a e = omega arith

    pub goes_back : found ≡ None → (m : Node) → m ≡ v.node → (lo : Key) → lo ≡ m.lo → (u : View) (count : ℕ) → IsLeafFor s root (Excluded lo) looked u count → SeeksBack s root hi u count
    goes_back is m at lo low u count leaf = back_more u count (none_back is) (subst (λ k. IsLeafFor s root (Excluded k) looked u count) (low ∙ ap (λ (z : Node). z.lo) at) leaf)

  pub gives_up_back : (store : Store) → s ≡ now store → (m : Node) → m ≡ v.node → (length m.lo ≡ 0 → ⊥) → (e : Error) → RefusesWalk (λ pages. pages + looked) store root e → RefusesWalk for_each store root e
  gives_up_back store at m same low e r = refuses_more (λ pages. pages + looked) for_each store root e
      (subst (λ z. (w : Forest) → WellFormed (nodes_of z) z.roots w → (t : Tree) → z.roots t ≡ Some root → tree_pages z t + looked ≤ tree_pages z t * tree_pages z t) at (back_gives_up (λ i. low (ap length (ap (λ (z : Node). z.lo) same ∙ i))))) r

  pub back_full : (walk : ℕ) → MOST_PAGES ≤ walk → walk ≤ looked → HasTooMany for_each s root
  back_full walk full more w f t is = let a = k.is w f t is in enough walk looked (length a.0 * tree_pages s t) (tree_pages s t * tree_pages s t) full more a.3
    where
      enough : (a l b m : ℕ) → MOST_PAGES ≤ a → a ≤ l → l + b ≤ m → MOST_PAGES ≤ m
      enough a l b m h g e = omega arith

-- nothing is within a bound that is below all keys
pub back_below : (s : State) (root : ℕ) (hi : Bound Key) → is_up_to hi [] ≡ false → OfContents s root (λ all. IsPredecessor hi all None)
back_below s root hi off = record { is = λ w f t is. none_of (λ e. is_up_to hi e.0) (contents (nodes_of s) w t) (λ e i. beyond hi [] e.0 (least e.0) off) }

-- what is below a key that is not empty
pub above_least : (k : Key) → (length k ≡ 0 → ⊥) → is_up_to (Excluded k) [] ≡ true
unfolding key_cmp
above_least [] off = absurd (off refl)
above_least (x ∷ xs) off = refl

pub above_empty : (k : Key) (n m v : Node) → n ≡ v → m ≡ v → k ≡ m.lo → (length n.lo ≡ 0 → ⊥) → is_up_to (Excluded k) [] ≡ true
above_empty k n m v a b c off = above_least k (λ z. off (ap (λ (x : Node). length x.lo) (a ∙ sym b) ∙ ap length (sym c) ∙ z))

pub one_walk : (a b c : ℕ) → a ≤ b → b < c → a + 1 ≤ c
one_walk a b c h g = omega arith
