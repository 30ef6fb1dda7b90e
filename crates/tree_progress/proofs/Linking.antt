-- A call links its change of a leaf.
use Rattle.std.proofs.Common.{◌≡◌, ℕ, suc, ◌+◌, ◌≤◌, ◌<◌, ◌^◌, Bool, true, false, cond, length, Some, option_map, is_some, sym, refl, ap, ◌∙◌, subst, arith}
use Rattle.std.specs.FinMap.Entries.{put, find, length-put, length_without}
use Rattle.sled_nodes.proofs.Basics.{key_total}
use Rattle.sled_nodes.specs.Node.{count, pointers, with_pair, without_key, without}
use Rattle.sled_nodes.specs.Order.{Key, key_cmp}
use Rattle.sled_store.specs.In.{In}
use Rattle.sled_store.specs.State.{State, nodes_of, PageBecomes, after}
use Rattle.sled_store.specs.declared.page.Page.{Page}
use Rattle.sled_nodes.specs.declared.node.Data.{Data}
use Rattle.sled_nodes.specs.declared.node.Data.TheVariants.{Leaf, Index}
use Rattle.sled_nodes.specs.declared.node.Node.{Node}
use Rattle.tree_laws.specs.Forest.{Tree, Forest, place, first_child, Holds, WellFormed}
use Rattle.tree_laws.specs.Snapshot.{nodes_at}
use Rattle.tree_laws.proofs.Cover.{holds_at}
use Rattle.tree_laws.proofs.Stable.{now_law}
use Rattle.tree_progress.specs.Weights.{weight, first_weight, child_weight}
use Rattle.tree_progress.specs.ToDo.{weight_of}
use Rattle.tree_progress.specs.Laws.{Raises, Links, LinkRaises}
use Rattle.tree_progress.proofs.Arithmetic.{less_weight, less_first_weight, more_weight, more_first_weight}
use Rattle.tree_progress.proofs.Changing.{others_stay, page_changes}
use Rattle.tree_progress.proofs.Replacing.{own_level}

-- a leaf gets one entry more at most, or loses one at most
put_size : (k v : Key) (lo hi : Key) (c : Data) → Holds 0 lo hi c → (count c ≤ count (with_pair k v c)) × (count (with_pair k v c) ≤ suc (count c))
put_size k v lo hi (Index es) h = absurd h
put_size k v lo hi (Leaf es) h = go (is_some (find key_cmp k es)) (length-put key_cmp key_total k v es h.0)
  where
    go : (b : Bool) → length (put key_cmp k v es) ≡ cond b (length es) (length es + 1) → (length es ≤ length (put key_cmp k v es)) × (length (put key_cmp k v es) ≤ suc (length es))
    go true e = (omega arith, omega arith)
    go false e = (omega arith, omega arith)

without_size : (k : Key) (lo hi : Key) (c : Data) → Holds 0 lo hi c → (count (without_key k c) ≤ count c) × (count c ≤ suc (count (without_key k c)))
without_size k lo hi (Index es) h = absurd h
without_size k lo hi (Leaf es) h = go (is_some (find key_cmp k es)) (length_without key_cmp key_total k es h.0)
  where
    go : (b : Bool) → cond b 1 0 + length (without k es) ≡ length es → (length (without k es) ≤ length es) × (length es ≤ suc (length (without k es)))
    go true e = (omega arith, omega arith)
    go false e = (omega arith, omega arith)

-- it has no pointers
pair_leads : (k v : Key) (c : Data) → first_child (pointers (with_pair k v c)) ≡ first_child (pointers c)
pair_leads k v (Leaf es) = refl
pair_leads k v (Index es) = refl

without_leads : (k : Key) (c : Data) → first_child (pointers (without_key k c)) ≡ first_child (pointers c)
without_leads k (Leaf es) = refl
without_leads k (Index es) = refl

-- the leaf with other pairs
module _ (s : State) (w : Forest) (f : WellFormed (nodes_of s) s.roots w) (below : (p : ℕ) (g : Page) → s.pages p ≡ Some g → p < 2 ^ 64) (t : Tree) (p : ℕ) (i : In p (w.chain (place t 0))) (n : Node) (c : Data) (version root by : ℕ)
    (live : nodes_of s p ≡ Some n) (leads : first_child (pointers c) ≡ first_child (pointers n.content)) (rooted : s.roots t ≡ Some root)
    (one : weight (count c) ≤ weight (count n.content) + by) (first : first_weight (count c) ≤ first_weight (count n.content) + by) (more : count c ≤ count n.content + by) where
  abbrev g : Page
  g = record { version = version; node = record n { content = c } }

  pub linked : Raises s (after (PageBecomes p (Some g)) s) t by
  linked = record {
    here = plain _ _ (page_changes s w f below t 0 p i g root 0 by n rooted live refl leads
        (own_level s w f below t 0 p i g n 0 by live (λ e. zero_more _ _ first) (λ b e. other b)));
    others = others_stay s w f below t 0 p i g;
  }
    where
      plain : (a b : ℕ) → a + 0 ≤ b → a ≤ b
      plain a b l = omega arith

      zero_more : (a b : ℕ) → a ≤ b → a + 0 ≤ b
      zero_more a b l = omega arith

      capped : (v : Bool) → child_weight v (count c) + 0 ≤ child_weight v (count n.content) + by
      capped false = omega arith
      capped true = omega arith

      other : (b : Bool) → weight_of b (Some (record n { content = c })) + 0 ≤ weight_of b (Some n) + by
      other false = zero_more _ _ one
      other true = capped n.merging

pub link_raises : LinkRaises
link_raises m w t number aim look node key version is named k page =
    let p : ℕ = look.pid in
    let n : Node = look.node in
    let node_is : node ≡ n = k.seen.view.speaks (record { version = look.version; node = node }) page refl in
    let live : nodes_at m p ≡ Some n = ap (option_map (λ (z : Page). z.node)) page ∙ ap Some node_is in
    let i = (now_law m w (place t 0) number n.lo p k.seen.stood named n live k.seen.is_open.not_merging).0 in
    let h = holds_at is.formed (place t 0) p n i live in
    let root = is.rooted t number named in
    let less = without_size key n.lo n.hi n.content h in
    subst (λ (z : Node). Links m t look z key version) (sym node_is) (record {
      sets = λ value. let more = put_size key value n.lo n.hi n.content h in
          linked m.state w is.formed is.below t p i n (with_pair key value n.content) version root.0 1 live (pair_leads key value n.content) root.1
          (more_weight (count n.content) _ more.0 more.1) (more_first_weight (count n.content) _ more.1) (up _ _ more.1);
      removes = linked m.state w is.formed is.below t p i n (without_key key n.content) version root.0 2 live (without_leads key n.content) root.1
          (less_weight (count n.content) _ less.0 less.1) (less_first_weight (count n.content) _ less.0) (down _ _ less.0);
    })
  where
    up : (a b : ℕ) → b ≤ suc a → b ≤ a + 1
    up a b l = omega arith

    down : (a b : ℕ) → b ≤ a → b ≤ a + 2
    down a b l = omega arith
