-- The intention of a merge: an index takes a child for its merging child.
use Rattle.std.proofs.Common.{◌≡◌, ℕ, suc, ◌+◌, ◌≤◌, ◌<◌, ◌^◌, Bool, true, false, sum_by, List, [], ◌∷◌, Some, None, option_map, option_to_list, sym, refl, ap, ◌∙◌, subst, inl, inr, arith}
use Rattle.sled_nodes.proofs.Basics.{none_some, some_is}
use Rattle.sled_nodes.specs.Node.{pointers, count, after_link, after_intention}
use Rattle.sled_nodes.specs.Order.{Key}
use Rattle.sled_store.specs.In.{In}
use Rattle.sled_store.specs.State.{State, Nodes, nodes_of, PageBecomes, after}
use Rattle.sled_nodes.specs.declared.link.Link.TheVariants.{ParentMergeIntention}
use Rattle.sled_nodes.specs.declared.node.Node.{Node}
use Rattle.sled_store.specs.declared.page.Page.{Page}
use Rattle.tree_laws.specs.Forest.{Tree, Forest, place, WellFormed, later}
use Rattle.tree_laws.specs.Snapshot.{nodes_at}
use Rattle.tree_laws.proofs.Cover.{later_in}
use Rattle.tree_laws.proofs.Stable.{now_law}
use Rattle.tree_progress.specs.Weights.{weight, child_weight, pointer_weight, received_weight}
use Rattle.tree_progress.specs.ToDo.{is_in, children, merges, weight_of, page_weight, to_do}
use Rattle.tree_progress.specs.Laws.{Intends, IntendLowers}
use Rattle.tree_progress.proofs.Among.{of_in, not_in, child_in, child_by}
use Rattle.tree_progress.proofs.Levels.{received}
use Rattle.tree_progress.proofs.Changing.{others_stay, page_changes, page_counts}
use Rattle.tree_progress.proofs.Replacing.{own_level, lower_one, lower_off, leads_alike, up_now}
use Rattle.tree_progress.proofs.Children.{later_not_first, one_child}

module _ (s : State) (w : Forest) (f : WellFormed (nodes_of s) s.roots w) (below : (p : ℕ) (g : Page) → s.pages p ≡ Some g → p < 2 ^ 64) (t : Tree) (h p : ℕ) (i : In p (w.chain (place t (suc h)))) (n d : Node) (c version root : ℕ) (key : Key)
    (live : nodes_of s p ≡ Some n) (free : n.merging_child ≡ None) (leads : In (key, c) (later (pointers n.content))) (here : In c (w.chain (place t h))) (there : nodes_of s c ≡ Some d) (awake : d.merging ≡ false) (rooted : s.roots t ≡ Some root) where
  abbrev m : Node
  m = record n { merging_child = Some c }

  abbrev g : Page
  g = record { version = version; node = m }

  abbrev after_it : Nodes
  after_it = nodes_of (after (PageBecomes p (Some g)) s)

  abbrev above : List ℕ
  above = w.chain (place t (suc h))

  is_child : is_in c (children after_it above) ≡ true
  is_child = of_in c _ (child_in (record { page = p; among = i; node = m; live = up_now s w f below t h p i g n live; child = refl }))

  was_none : is_in c (children (nodes_of s) above) ≡ false
  was_none = not_in c _ (λ j. none_some (sym free ∙ one_child f t h p c n key i live (later_in n.content key c leads) (child_by (nodes_of s) above c j)))

  child_weighs : page_weight after_it above c + weight (count d.content) ≤ page_weight (nodes_of s) above c + child_weight false (count d.content)
  child_weighs =
      sum (weight_of (is_in c (children after_it above)) (after_it c)) (weight_of (is_in c (children (nodes_of s) above)) (nodes_of s c)) _ _ _ _
      (ap (λ b. weight_of b (after_it c)) is_child ∙ ap (weight_of true) (lower_off s w f below t h p i g n live c here ∙ there) ∙ ap (λ b. child_weight b (count d.content)) awake)
      (ap (λ b. weight_of b (nodes_of s c)) was_none ∙ ap (weight_of false) there)
      (ap pointer_weight (leads_alike s w f below t h p i g n live c (λ x. x) (λ x. x)))
    where
      sum : (a b x y u v : ℕ) → a ≡ x → b ≡ y → u ≡ v → (a + u) + y ≤ (b + v) + x
      sum a b x y u v e e' e'' = omega arith

  kids : sum_by (received (w.chain (place t h))) (merges (Some m)) + 0 ≤ sum_by (received (w.chain (place t h))) (merges (Some n)) + 0
  kids = subst (λ o. sum_by (received (w.chain (place t h))) (c ∷ []) + 0 ≤ sum_by (received (w.chain (place t h))) (option_to_list o) + 0) (sym free)
      (none (received (w.chain (place t h)) c) (ap received_weight (of_in c (w.chain (place t h)) here)))
    where
      none : (a : ℕ) → a ≡ 0 → (0 + a) + 0 ≤ 0 + 0
      none a e = omega arith

  heavier : to_do (after (PageBecomes p (Some g)) s) t + weight (count d.content) ≤ to_do s t + child_weight false (count d.content)
  heavier = page_changes s w f below t (suc h) p i g root (weight (count d.content)) (child_weight false (count d.content)) n rooted live refl refl
      (sum _ _ _ _ _ _ (own_level s w f below t (suc h) p i g n 0 0 live (λ e. same _) (λ b e. own b))
      (lower_one s w f below t h p i g n live c (weight (count d.content)) (child_weight false (count d.content)) 0 0 here (later_not_first f t h p c n key i live leads)
      (λ q j off. record { led_was = λ x. x; led_now = λ x. x; child_was = λ x. absurd (elim x [ inl e ↦ off e | inr e ↦ e ]); child_now = λ x. absurd (subst (λ o. In q (option_to_list o)) free x) })
      child_weighs kids))
    where
      same : (a : ℕ) → a + 0 ≤ a + 0
      same a = omega arith

      own : (b : Bool) → weight_of b (Some m) + 0 ≤ weight_of b (Some n) + 0
      own false = omega arith
      own true = same (child_weight n.merging (count n.content))

      sum : (x y a b u v : ℕ) → a + 0 ≤ u + 0 → b + (x + 0) ≤ v + (y + 0) → (a + b) + x ≤ (u + v) + y
      sum x y a b u v l l' = omega arith

  pub intended : Intends s (after (PageBecomes p (Some g)) s) t (count d.content)
  intended = record {
    here = heavier;
    small = λ l. less (count d.content) _ _ l heavier;
    pages = page_counts s w f below t (suc h) p i g root n rooted live refl refl;
    others = others_stay s w f below t (suc h) p i g;
  }
    where
      less : (n a b : ℕ) → n ≤ 3 → a + weight n ≤ b + (n + 5) → a + 1 ≤ b
      less n a b l u = omega arith

pub intend_lowers : IntendLowers
intend_lowers m w t number a node child version is named k page there =
    let h : ℕ = k.height in
    let p : ℕ = a.parent.pid in
    let n : Node = a.parent.node in
    let seen = k.above.seen in
    let node_is : node ≡ n = seen.view.speaks (record { version = a.parent.version; node = node }) page refl in
    let live : nodes_at m p ≡ Some n = ap (option_map (λ (z : Page). z.node)) page ∙ ap Some node_is in
    let i = (now_law m w (place t (suc h)) number n.lo p seen.stood named n live seen.is_open.not_merging).0 in
    let u = k.under named (record { page = record { version = a.parent.version; node = node }; live = page; same = refl }) in
    let child_is : u.node ≡ child = some_is (sym u.live ∙ there) in
    let awake : child.merging ≡ false = subst (λ (z : Node). z.merging ≡ false) child_is u.not_merging in
    let root = is.rooted t number named in
    let same : record n { merging_child = Some a.child } ≡ after_link (ParentMergeIntention a.child) node =
    ap (λ o. record n { merging_child = o }) (sym (ap (λ z. after_intention z a.child n.merging_child) k.above.content)) ∙ ap (after_link (ParentMergeIntention a.child)) (sym node_is) in
    subst (λ (z : Node). Intends m.state (after (PageBecomes p (Some (record { version = version; node = z }))) m.state) t (count child.content)) same
    (intended m.state w is.formed is.below t h p i n child a.child version root.0 k.key live seen.is_open.free k.pointer u.chained there awake root.1)
