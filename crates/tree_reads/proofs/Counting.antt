-- How many pairs stand before a leaf.
use Rattle.std.proofs.Common.{◌≡◌, ℕ, suc, ◌+◌, ◌≤◌, true, List, [], ◌∷◌, ◌++◌, length, flat_map, Option, Some, None, option_map, sym, refl, ap, ◌∙◌, subst, inl, inr, append_assoc, append-nil, length-append, arith}
use Rattle.std.specs.declared.ops.Bound.TheVariants.{Included}
use Rattle.sled_nodes.proofs.Basics.{none_some, some_is, not_true}
use Rattle.sled_nodes.specs.Order.{Key, Below}
use Rattle.sled_nodes.specs.Among.{is_up_to}
use Rattle.sled_nodes.specs.Node.{pairs}
use Rattle.sled_store.specs.State.{State, Nodes, nodes_of}
use Rattle.sled_store.specs.Store.{Store, now, AreGiven, IsReadRefused, view_of}
use Rattle.sled_nodes.specs.declared.error.Error.{Error}
use Rattle.sled_nodes.specs.declared.node.Node.{Node}
use Rattle.sled_store.specs.declared.page.Page.{Page}
use Rattle.sled_store.specs.declared.page.View.{View}
use Rattle.tree_laws.specs.Forest.{Tree, Forest, place, Run, WellFormed, node_pairs}
use Rattle.tree_laws.specs.Paths.{tree_pages}
use Rattle.tree_laws.proofs.Cover.{parted}
use Rattle.tree_laws.proofs.Order.{upto_cases}
use Rattle.tree_laws.proofs.Runs.{run_to}
use Rattle.tree_laws.proofs.Looking.{next_in}
use Rattle.tree_laws.proofs.Pairs.{not_below_empty}
use Rattle.tree_laws.proofs.Viewed.{viewed, gone}
use Rattle.tree_reads.specs.Walk.{IsLeafFor, HasTooMany, RefusesWalk, once}
use Rattle.tree_reads.specs.Leaves.{OfContents}
use Rattle.tree_reads.specs.theory.Leaves.{Counts}
use Rattle.tree_reads.specs.declared.TheConstants.{MOST_PAGES}
use Rattle.tree_reads.proofs.Walking.{page_refused}
use Rattle.tree_reads.proofs.Seeking.{node_at}
use Rattle.tree_reads.proofs.Backing.{chain_at}

-- nothing stands before a page without a lo
none_before : (nodes : Nodes) (roots : Tree → Option ℕ) (w : Forest) → WellFormed nodes roots w → (t : Tree) (p : ℕ) (n : Node) (xs ys : List ℕ) → w.chain (place t 0) ≡ xs ++ p ∷ ys → nodes p ≡ Some n → n.lo ≡ [] → xs ≡ []
none_before nodes roots w f t p n [] ys e live low = refl
none_before nodes roots w f t p n (x ∷ xs) ys e live low =
    let r = (parted f (place t 0) p n (x ∷ xs) ys e live).0 in
    absurd (not_below_empty r.0.lo (subst (λ k. Below r.0.lo k) low (run_to nodes (x ∷ xs) _ p _ _ r x r.0 (inl refl) r.1.live)))

-- the pairs of one page more
one_more : (f : ℕ → List (Key × Key)) (xs : List ℕ) (p : ℕ) → length (flat_map f (xs ++ p ∷ [])) ≡ length (flat_map f xs) + length (f p)
one_more f [] p = ap length (append-nil (f p)) ∙ none (length (f p))
  where
    none : (a : ℕ) → a ≡ 0 + a
    none a = omega arith
one_more f (x ∷ xs) p = length-append (f x) (flat_map f (xs ++ p ∷ [])) ∙ ap (λ z. length (f x) + z) (one_more f xs p) ∙ sum (length (f x)) (length (flat_map f xs)) (length (f p)) ∙ ap (λ z. z + length (f p)) (sym (length-append (f x) (flat_map f xs)))
  where
    sum : (a b c : ℕ) → a + (b + c) ≡ (a + b) + c
    sum a b c = omega arith

pub count_first : (s : Store) (root : ℕ) (v : View) (looked : ℕ) → AreGiven s → IsLeafFor (now s) root (Included []) 0 v looked → Counts (now s) root v looked 0
count_first s root v looked given leaf = record {
  read = record { live = leaf.live; below = given.numbered };
  is = λ w f t is.
      let k = leaf.is w f t is in
      let low = empty v.node.lo k.0.begins in
      let none = none_before (nodes_of (now s)) (now s).roots w f t v.pid v.node k.2.before k.2.behind k.2.is (node_at (now s) v leaf.live) low in
      (k.2.before, k.2.behind, k.2.is, fits k.1 (length k.2.behind) looked (tree_pages (now s) t) k.2.count k.3, sym (ap (λ z. length (flat_map (λ p. node_pairs (nodes_of (now s) p)) z)) none));
}
  where
    fits : (a b l n : ℕ) → a ≡ suc b + 0 → a + l ≤ n + 0 + 1 → l + b ≤ n
    fits a b l n c h = omega arith

    empty : (k : Key) → is_up_to (Included []) k ≡ true → k ≡ []
    empty k b = elim (upto_cases k [] (not_true _ b)) [ inl l ↦ absurd (not_below_empty k l) | inr e ↦ e ]

module _ (s : State) (root : ℕ) (v : View) (looked total : ℕ) (k : Counts s root v looked total) (n : Node) (same : n ≡ v.node) (more : ℕ) (with : more ≡ total + length (pairs n.content)) where
  all_here : (before : List ℕ) → total ≡ length (flat_map (λ p. node_pairs (nodes_of s p)) before) → more ≡ length (flat_map (λ p. node_pairs (nodes_of s p)) (before ++ v.pid ∷ []))
  all_here before e = with ∙ ap (λ z. z + length (pairs n.content)) e ∙ ap (λ z. length (flat_map (λ p. node_pairs (nodes_of s p)) before) + z) (ap (λ (z : Node). length (pairs z.content)) same ∙ sym (ap (λ z. length (node_pairs z)) (node_at s v k.read.live))) ∙ sym (one_more (λ p. node_pairs (nodes_of s p)) before v.pid)

  pub count_ends : (m : Node) → m ≡ v.node → m.next ≡ None → OfContents s root (λ all. more ≡ length all)
  count_ends m at last = record {
    is = λ w f t is.
        let a = k.is w f t is in
        let r = parted f (place t 0) v.pid v.node a.0 a.1 a.2 (node_at s v k.read.live) in
        all_here a.0 a.4 ∙ ap (λ z. length (flat_map (λ p. node_pairs (nodes_of s p)) z)) (ap (λ z. a.0 ++ v.pid ∷ z) (sym (none a.1 r.2)) ∙ sym a.2);
  }
    where
      none : (ys : List ℕ) → Run (nodes_of s) ys v.node.next v.node.hi None [] → ys ≡ []
      none [] r = refl
      none (y ∷ ys) r = none_some (sym (ap (λ (z : Node). z.next) (sym at) ∙ last) ∙ r.1.here)

  pub count_more : (m : Node) → m ≡ v.node → (q : ℕ) (u : View) → m.next ≡ Some q → Some u ≡ view_of q (s.pages q) → Counts s root u (looked + 1) more
  count_more m at q u next read =
      let x = viewed q (s.pages q) u read in record {
        read = record { live = ap s.pages x.0 ∙ x.1; below = k.read.below };
        is = λ w f t is.
            let a = k.is w f t is in
            let b = behind a.1 (parted f (place t 0) v.pid v.node a.0 a.1 a.2 (node_at s v k.read.live)).2 in
            (a.0 ++ v.pid ∷ [], b.0, a.2 ∙ ap (λ z. a.0 ++ v.pid ∷ z) (b.1 ∙ ap (λ p. p ∷ b.0) (sym x.0)) ∙ sym (append_assoc a.0 (v.pid ∷ []) (u.pid ∷ b.0)), fewer looked (length a.1) (length b.0) (tree_pages s t) a.3 (ap length b.1), all_here a.0 a.4);
      }
    where
      behind : (ys : List ℕ) → Run (nodes_of s) ys v.node.next v.node.hi None [] → (zs : List ℕ) × (ys ≡ q ∷ zs)
      behind [] r = none_some (sym r.0 ∙ ap (λ (z : Node). z.next) (sym at) ∙ next)
      behind (y ∷ ys) r = (ys, ap (λ p. p ∷ ys) (some_is (sym r.1.here ∙ ap (λ (z : Node). z.next) (sym at) ∙ next)))

      fewer : (l b c n : ℕ) → l + b ≤ n → b ≡ suc c → (l + 1) + c ≤ n
      fewer l b c n h e = omega arith

module _ (s : State) (root : ℕ) (v : View) (looked total : ℕ) (k : Counts s root v looked total) where
  pub count_gone : (m : Node) → m ≡ v.node → (q : ℕ) → m.next ≡ Some q → None ≡ view_of q (s.pages q) → HasTooMany once s root
  count_gone m at q next read w f t is =
      let a = k.is w f t is in
      let d = next_in f (place t 0) v.pid q v.node (chain_at w t v.pid a.0 a.1 a.2) (node_at s v k.read.live) (ap (λ (z : Node). z.next) (sym at) ∙ next) in
      none_some (sym (ap (option_map (λ (g : Page). g.node)) (gone q (s.pages q) read)) ∙ d.2)

  pub count_full : MOST_PAGES ≤ looked → HasTooMany once s root
  count_full full w f t is = let a = k.is w f t is in enough looked (length a.1) (tree_pages s t) full a.3
    where
      enough : (l b m : ℕ) → MOST_PAGES ≤ l → l + b ≤ m → MOST_PAGES ≤ m
      enough l b m h g = omega arith

-- the leaf after one of the tree is not read
pub count_refused : (s : Store) (root : ℕ) (v : View) (looked total : ℕ) → Counts (now s) root v looked total → (m : Node) → m ≡ v.node → (q : ℕ) → m.next ≡ Some q → (e : Error) → IsReadRefused q s e → RefusesWalk once s root e
count_refused s root v looked total k m at q next = page_refused once s root q
    (λ t is w f. let a = k.is w f t is in (0, (next_in f (place t 0) v.pid q v.node (chain_at w t v.pid a.0 a.1 a.2) (node_at (now s) v k.read.live) (ap (λ (z : Node). z.next) (sym at) ∙ next)).1))
