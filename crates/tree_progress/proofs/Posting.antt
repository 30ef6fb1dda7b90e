-- An index gets its pointer to a page of the level below.
use Rattle.std.proofs.Common.{◌≡◌, ◌≢◌, ℕ, suc, ◌+◌, ◌≤◌, ◌<◌, ◌^◌, Bool, true, false, cond, is_none, is_some, is_eq, Less, Equal, Greater, List, [], ◌∷◌, length, Option, Some, None, option_map, sym, refl, ap, ◌∙◌, subst, inl, inr, arith}
use Rattle.std.proofs.lemmas.Cmp.{tied_itself}
use Rattle.std.specs.FinMap.Entries.{put, find, by_order, length-put}
use Rattle.std.specs.declared.cmp.Ordering.{Ordering}
use Rattle.sled_nodes.proofs.Basics.{none_some, some_none, some_is, key_total}
use Rattle.sled_nodes.specs.Node.{pointers, count, Within, Covers}
use Rattle.sled_nodes.specs.Order.{Key, key_cmp, Below}
use Rattle.sled_nodes.specs.Posting.{with_pointer, takes_pointer}
use Rattle.sled_store.specs.In.{In}
use Rattle.sled_store.specs.State.{State, Nodes, nodes_of, PageBecomes, after}
use Rattle.sled_nodes.specs.declared.node.Data.TheVariants.{Index}
use Rattle.sled_nodes.specs.declared.node.Node.{Node}
use Rattle.sled_store.specs.declared.page.Page.{Page}
use Rattle.tree_laws.specs.Forest.{Tree, Forest, place, first_key, first_child, Holds, WellFormed}
use Rattle.tree_laws.specs.Snapshot.{nodes_at}
use Rattle.tree_laws.proofs.Cover.{holds_at, one_cover, pointer_within}
use Rattle.tree_laws.proofs.Pairs.{above}
use Rattle.tree_laws.proofs.Stable.{now_law}
use Rattle.tree_progress.specs.Weights.{child_weight, pointer_weight}
use Rattle.tree_progress.specs.ToDo.{is_in, led_to, pointed, children, weight_of, first_weight_of, page_weight}
use Rattle.tree_progress.specs.Laws.{Lowers, PostLowers}
use Rattle.tree_progress.proofs.Arithmetic.{more_weight, more_first_weight}
use Rattle.tree_progress.proofs.Among.{IsPointed, of_in, not_in, gathers, pointed_by}
use Rattle.tree_progress.proofs.Sums.{no_more}
use Rattle.tree_progress.proofs.Pointing.{ends}
use Rattle.tree_progress.proofs.Changing.{others_stay, page_changes, page_counts}
use Rattle.tree_progress.proofs.Replacing.{LeadsAlike, own_level, lower_one, lower_off, kids_alike, up_now}
use Rattle.tree_progress.proofs.Children.{above_not_first}

-- a pointer is put in behind a first one that is below it
put_first : (lo k : Key) (q : ℕ) (es : List (Key × ℕ)) → Below lo k → first_key es ≡ Some lo → first_child (put key_cmp k q es) ≡ first_child es
put_first lo k q [] b e = none_some e
put_first lo k q (a ∷ es) b e = ap (λ o. first_child (by_order o ((k, q) ∷ a ∷ es) ((a.0, q) ∷ es) (a ∷ put key_cmp k q es))) (above a.0 k (subst (λ z. Below z k) (some_is (sym e)) b))

-- the page is led to then,
put_led : (k : Key) (q : ℕ) (es : List (Key × ℕ)) → In q (ends (put key_cmp k q es))
put_led k q [] = inl refl
put_led k q (a ∷ es) =
    let rest = put_led k q es in
    elim (key_cmp k a.0) as (λ o. In q (ends (by_order o ((k, q) ∷ a ∷ es) ((a.0, q) ∷ es) (a ∷ put key_cmp k q es)))) [ Less ↦ inl refl | Equal ↦ inl refl | Greater ↦ inr rest ]

-- .. and every other page as before, where the key had no pointer
put_ends : (k : Key) (q z : ℕ) (es : List (Key × ℕ)) → find key_cmp k es ≡ None → z ≢ q → (In z (ends (put key_cmp k q es)) → In z (ends es)) × (In z (ends es) → In z (ends (put key_cmp k q es)))
put_ends k q z [] none off = (λ i. elim i [ inl e ↦ absurd (off e) | inr e ↦ e ], λ i. absurd i)
put_ends k q z (a ∷ es) none off =
    let rest = put_ends k q z es in
    (elim (key_cmp k a.0) as (λ o. cond (is_eq o) (Some a.1) (find key_cmp k es) ≡ None
    → (In z (ends (by_order o ((k, q) ∷ a ∷ es) ((a.0, q) ∷ es) (a ∷ put key_cmp k q es))) → In z (ends (a ∷ es))) × (In z (ends (a ∷ es)) → In z (ends (by_order o ((k, q) ∷ a ∷ es) ((a.0, q) ∷ es) (a ∷ put key_cmp k q es))))) [
      | Less ↦ λ e. (λ i. elim i [ inl s ↦ absurd (off s) | inr j ↦ j ], λ i. inr i)
      | Equal ↦ λ e. some_none e
      | Greater ↦ λ e. let r = rest e off in (λ i. elim i [ inl s ↦ inl s | inr j ↦ inr (r.0 j) ], λ i. elim i [ inl s ↦ inl s | inr j ↦ inr (r.1 j) ])
    ]) none

-- a key that is not found has no pointer
none_at : (k : Key) (c : ℕ) (es : List (Key × ℕ)) → find key_cmp k es ≡ None → ¬ (In (k, c) es)
none_at k c [] e i = i
none_at k c (a ∷ es) e (inl s) = some_none (sym (ap (λ o. cond (is_eq o) (Some a.1) (find key_cmp k es)) (subst (λ (z : Key × ℕ). key_cmp k z.0 ≡ Equal) s (tied_itself key_total k))) ∙ e)
none_at k c (a ∷ es) e (inr i) = none_at k c es (rest (key_cmp k a.0) e) i
  where
    rest : (o : Ordering) → cond (is_eq o) (Some a.1) (find key_cmp k es) ≡ None → find key_cmp k es ≡ None
    rest Less e = e
    rest Equal e = some_none e
    rest Greater e = e

module _ (s : State) (w : Forest) (f : WellFormed (nodes_of s) s.roots w) (below : (p : ℕ) (g : Page) → s.pages p ≡ Some g → p < 2 ^ 64) (t : Tree) (h p : ℕ) (i : In p (w.chain (place t (suc h)))) (n d : Node) (es : List (Key × ℕ)) (q version root : ℕ)
    (live : nodes_of s p ≡ Some n) (index : n.content ≡ Index es) (here : In q (w.chain (place t h))) (there : nodes_of s q ≡ Some d) (low : Below n.lo d.lo) (covers : Covers n d.lo) (new_key : find key_cmp d.lo es ≡ None) (rooted : s.roots t ≡ Some root) where
  abbrev m : Node
  m = record n { content = Index (put key_cmp d.lo q es) }

  abbrev g : Page
  g = record { version = version; node = m }

  abbrev after_it : Nodes
  after_it = nodes_of (after (PageBecomes p (Some g)) s)

  abbrev up : List ℕ
  up = w.chain (place t (suc h))

  holds : Holds (suc h) n.lo n.hi (Index es)
  holds = subst (λ z. Holds (suc h) n.lo n.hi z) index (holds_at f (place t (suc h)) p n i live)

  size : count m.content ≡ suc (count n.content)
  size = length-put key_cmp key_total d.lo q es holds.0 ∙ ap (λ o. cond (is_some o) (length es) (length es + 1)) new_key ∙ one (length es) ∙ ap (λ z. suc (count z)) (sym index)
    where
      one : (a : ℕ) → a + 1 ≡ suc a
      one a = omega arith

  of_child : (b : Bool) → weight_of b (Some m) + 0 ≤ weight_of b (Some n) + 1
  of_child false = plain _ _ (more_weight (count n.content) (count m.content) (omega (arith, size)) (omega (arith, size)))
    where
      plain : (a b : ℕ) → a ≤ b + 1 → a + 0 ≤ b + 1
      plain a b l = omega arith
  of_child true = capped n.merging
    where
      capped : (b : Bool) → child_weight b (count m.content) + 0 ≤ child_weight b (count n.content) + 1
      capped false = omega (arith, size)
      capped true = omega (arith, size)

  first_page : first_weight_of (Some m) + 0 ≤ first_weight_of (Some n) + 1
  first_page = plain _ _ (more_first_weight (count n.content) (count m.content) (omega (arith, size)))
    where
      plain : (a b : ℕ) → a ≤ b + 1 → a + 0 ≤ b + 1
      plain a b l = omega arith

  -- nothing led to the page
  unpointed_was : is_in q (pointed (nodes_of s) up) ≡ false
  unpointed_was = not_in q _ (λ j. no (pointed_by (nodes_of s) up q j))
    where
      no : IsPointed (nodes_of s) up q → ⊥
      no k =
          let e = f.pointer t h k.page k.node k.among k.live k.key q k.pointer in
          let key_is : k.key ≡ d.lo = sym e.key ∙ ap (λ (z : Node). z.lo) (some_is (sym e.live ∙ there)) in
          let within : Within k.node.lo k.node.hi d.lo = subst (λ z. Within k.node.lo k.node.hi z) key_is (pointer_within h k.node.lo k.node.hi k.node.content (holds_at f (place t (suc h)) k.page k.node k.among k.live) k.key q k.pointer) in
          let same : k.page ≡ p = one_cover f (place t (suc h)) k.page p k.node n d.lo k.among i k.live live within covers in
          let node_is : k.node ≡ n = some_is (sym k.live ∙ ap (nodes_of s) same ∙ live) in
          none_at d.lo q es new_key (subst (λ z. In (d.lo, q) (pointers z)) (ap (λ (z : Node). z.content) node_is ∙ index) (subst (λ z. In (z, q) (pointers k.node.content)) key_is k.pointer))

  pointed_now : is_in q (pointed after_it up) ≡ true
  pointed_now = of_in q _ (lies (put_led d.lo q es))
    where
      lies : In q (ends (put key_cmp d.lo q es)) → In q (pointed after_it up)
      lies j = gathers (λ z. led_to (after_it z)) up p q i (subst (λ o. In q (led_to o)) (sym (up_now s w f below t h p i g n live)) j)

  page_weighs : page_weight after_it up q + 4 ≤ page_weight (nodes_of s) up q + 0
  page_weighs =
      sum _ _ _ _
      (ap (λ b. weight_of b (after_it q)) (kids_alike s w f below t h p i g n live q (λ x. x) (λ x. x)) ∙ ap (weight_of (is_in q (children (nodes_of s) up))) (lower_off s w f below t h p i g n live q here))
      (ap pointer_weight pointed_now) (ap pointer_weight unpointed_was)
    where
      sum : (a b u v : ℕ) → a ≡ b → u ≡ 0 → v ≡ 4 → (a + u) + 4 ≤ (b + v) + 0
      sum a b u v e e' e'' = omega arith

  pub posted : Lowers s (after (PageBecomes p (Some g)) s) t 3
  posted = record {
    here = no_more _ _ (page_changes s w f below t (suc h) p i g root 3 0 n rooted live refl first
        (sum _ _ _ _ (own_level s w f below t (suc h) p i g n 0 1 live (λ e. first_page) (λ b e. of_child b))
        (lower_one s w f below t h p i g n live q 4 0 0 0 here (above_not_first f (place t h) q d n.lo there low) alike page_weighs (same _))));
    pages = page_counts s w f below t (suc h) p i g root n rooted live refl first;
    others = others_stay s w f below t (suc h) p i g;
  }
    where
      first : first_child (put key_cmp d.lo q es) ≡ first_child (pointers n.content)
      first = put_first n.lo d.lo q es low holds.2 ∙ ap (λ z. first_child (pointers z)) (sym index)

      alike : (z : ℕ) → In z (w.chain (place t h)) → z ≢ q → LeadsAlike (Some n) (Some m) z
      alike z j off =
          let b = put_ends d.lo q z es new_key off in
          record {
            led_was = λ x. subst (λ c. In z (led_to (Some (record n { content = c })))) (sym index) (b.0 x);
            led_now = λ x. b.1 (subst (λ c. In z (led_to (Some (record n { content = c })))) index x);
            child_was = λ x. x;
            child_now = λ x. x;
          }

      same : (a : ℕ) → a + 0 ≤ a + 0
      same a = omega arith

      sum : (a b x y : ℕ) → a + 0 ≤ x + 1 → b + (4 + 0) ≤ y + (0 + 0) → (a + b) + 3 ≤ (x + y) + 0
      sum a b x y u v = omega arith

pub post_lowers : PostLowers
post_lowers m w t number a node version is named k page takes =
    let h : ℕ = k.height in
    let p : ℕ = a.parent.pid in
    let n : Node = a.parent.node in
    let seen = k.above.seen in
    let node_is : node ≡ n = seen.view.speaks (record { version = a.parent.version; node = node }) page refl in
    let live : nodes_at m p ≡ Some n = ap (option_map (λ (z : Page). z.node)) page ∙ ap Some node_is in
    let i = (now_law m w (place t (suc h)) number n.lo p seen.stood named n live seen.is_open.not_merging).0 in
    let u = k.under named (record { page = record { version = a.parent.version; node = node }; live = page; same = refl }) in
    let root = is.rooted t number named in
    let none : find key_cmp u.node.lo k.above.es ≡ None = missing (find key_cmp u.node.lo k.above.es) (subst (λ l. is_none (find key_cmp l k.above.es) ≡ true) (sym u.lo) (subst (λ c. takes_pointer a.at c ≡ true) k.above.content takes)) in
    let same : record n { content = Index (put key_cmp u.node.lo a.pid k.above.es) } ≡ record n { content = with_pointer a.at a.pid n.content } =
    ap (λ c. record n { content = c }) (ap (λ l. Index (put key_cmp l a.pid k.above.es)) u.lo ∙ sym (ap (with_pointer a.at a.pid) k.above.content)) in
    subst (λ (z : Node). Lowers m.state (after (PageBecomes p (Some (record { version = version; node = z }))) m.state) t 3) same
    (posted m.state w is.formed is.below t h p i n u.node k.above.es a.pid version root.0 live k.above.content u.chained u.live (subst (λ l. Below n.lo l) (sym u.lo) k.beyond) (subst (λ l. Covers n l) (sym u.lo) u.covers) none root.1)
  where
    missing : (o : Option ℕ) → is_none o ≡ true → o ≡ None
    missing None e = refl
    missing (Some x) e = cc
