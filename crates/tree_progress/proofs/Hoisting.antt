-- The root of a tree becomes an index over the old root and the page beside it.
use Rattle.std.proofs.Common.{◌≡◌, ◌≢◌, ℕ, zero, suc, ◌+◌, ◌≤◌, ◌<◌, ◌^◌, sum_by, List, [], ◌∷◌, ◌++◌, length, Some, option_to_list, sym, refl, ap, ◌∙◌, subst, inl, inr, arith}
use Rattle.std.proofs.lemmas.List.Sums.{sum_by-cons}
use Rattle.sled_nodes.proofs.Basics.{none_some, some_is, same_or_not}
use Rattle.sled_nodes.specs.Node.{pointers, count}
use Rattle.sled_nodes.specs.Order.{Key, Below}
use Rattle.sled_store.specs.In.{In}
use Rattle.sled_store.specs.State.{State, nodes_of, RootBecomes, after}
use Rattle.sled_store.specs.Update.{put_at}
use Rattle.sled_store.specs.theory.Facts.{put_here, put_elsewhere, put_name_here, put_name_elsewhere}
use Rattle.sled_nodes.specs.declared.node.Node.{Node}
use Rattle.sled_store.specs.declared.page.Page.{Page}
use Rattle.tree_laws.specs.Forest.{Tree, Forest, Place, place, head, first_child, WellFormed}
use Rattle.tree_laws.specs.Contents.{page_numbers, next_of, first_of}
use Rattle.tree_laws.specs.Snapshot.{IsOrphan}
use Rattle.tree_laws.specs.Stages.{IsOver}
use Rattle.tree_laws.specs.theory.Drops.{Different}
use Rattle.tree_laws.proofs.Cover.{chain_run}
use Rattle.tree_laws.proofs.Fuel.{run_different, few_different, nodes_below}
use Rattle.tree_laws.proofs.Known.{root_in}
use Rattle.tree_laws.proofs.Replace.{head_in}
use Rattle.tree_laws.proofs.Runs.{In_split, In-left, In-right}
use Rattle.tree_laws.proofs.Splitting.{own_node}
use Rattle.tree_laws.proofs.Stable.{now_law}
use Rattle.tree_progress.specs.Weights.{first_weight, pointer_weight}
use Rattle.tree_progress.specs.ToDo.{is_in, led_to, merges, pointed, children, weight_of, first_weight_of, page_weight, level_weight, to_do_under}
use Rattle.tree_progress.specs.Laws.{Lowers, SwapLowers}
use Rattle.tree_progress.proofs.Among.{of_in, not_in}
use Rattle.tree_progress.proofs.Sums.{chained, chained_change, over_same}
use Rattle.tree_progress.proofs.Levels.{received, page_same}
use Rattle.tree_progress.proofs.Counting.{pages_levels}
use Rattle.tree_progress.proofs.Shapes.{Leads, IsShape, level_at, shape_of, to_do_levels}
use Rattle.tree_progress.proofs.Changing.{level_low}
use Rattle.tree_progress.proofs.Pointing.{apart, ends}
use Rattle.tree_progress.proofs.Children.{above_not_first}

-- in the middle of a list one page weighs otherwise
pub sum_change : (g g' : ℕ → ℕ) (xs ys : List ℕ) (p d e : ℕ) → ((q : ℕ) → In q xs → g' q ≡ g q) → ((q : ℕ) → In q ys → g' q ≡ g q) → g' p + d ≤ g p + e → sum_by g' (xs ++ (p ∷ ys)) + d ≤ sum_by g (xs ++ (p ∷ ys)) + e
sum_change g g' xs ys p d e early late at =
    let a = chained_change g g' g g' xs [] [] ys p d e (λ q i. (early q i, early q i)) late (λ u. plain _ _ at) (λ u. plain _ _ at) in
    joined _ _ _ _ (all g' (xs ++ (p ∷ ys))) (all g (xs ++ (p ∷ ys))) a
  where
    plain : (a b : ℕ) → a + d ≤ b + e → a + 0 + d ≤ b + 0 + e
    plain a b l = omega arith

    all : (f : ℕ → ℕ) (ps : List ℕ) → chained f f ps ≡ sum_by f ps
    all f [] = refl
    all f (x ∷ ps) = sym (sum_by-cons f x ps)

    joined : (a b x y : ℕ) → a ≡ x → b ≡ y → a + d ≤ b + e → x + d ≤ y + e
    joined a b x y u v l = omega arith

module _ (s : State) (w : Forest) (f : WellFormed (nodes_of s) s.roots w) (below : (p : ℕ) (g : Page) → s.pages p ≡ Some g → p < 2 ^ 64) (t : Tree) (left right r height : ℕ) (n d : Node) (at : Key)
    (rooted : s.roots t ≡ Some left) (k : IsShape (nodes_of s) (λ h. w.chain (place t h)) left height) (beside : In right (w.chain (place t height))) (there : nodes_of s right ≡ Some d) (low : Below [] d.lo) (stray : IsOrphan w r) (live : nodes_of s r ≡ Some n) (over_both : IsOver n left at right) where
  abbrev chain : ℕ → List ℕ
  chain h = w.chain (place t h)

  raised : ℕ → List ℕ
  raised = put_at chain (suc height) (r ∷ [])

  raised_top : raised (suc height) ≡ r ∷ []
  unfolding raised
  raised_top = put_here chain (suc height) (r ∷ [])

  raised_else : (h : ℕ) → h ≢ suc height → raised h ≡ chain h
  unfolding raised
  raised_else h off = put_elsewhere chain (suc height) h (r ∷ []) off

  none_above : chain (suc (suc height)) ≡ []
  none_above = go (chain (suc (suc height))) refl
    where
      go : (ps : List ℕ) → chain (suc (suc height)) ≡ ps → ps ≡ []
      go [] e = refl
      go (p ∷ ps) e = absurd (no (level_low f t left height k (suc (suc height)) p (subst (λ l. In p l) (sym e) (inl refl))))
        where
          no : suc (suc height) < suc height → ⊥
          no l = omega arith

  -- the first pages of the levels
  firsts : (h : ℕ) → h ≤ height → (ps : List ℕ) × (length ps ≡ suc h) × Different ps × ((q : ℕ) → In q ps → (j : ℕ) × (j ≤ h) × (w.home q ≡ Some (place t j)))
  firsts zero l = let b = k.begins 0 l in (b.0 ∷ [], refl, ((λ q i. absurd i), tt), λ q i. (0, omega arith, elim i [ inl e ↦ ap w.home e ∙ f.homed (place t 0) b.0 (head_in _ b.0 b.1) | inr e ↦ absurd e ]))
  firsts (suc h) l =
      let b = k.begins (suc h) l in
      let rest = firsts h (omega arith) in
      let here : w.home b.0 ≡ Some (place t (suc h)) = f.homed (place t (suc h)) b.0 (head_in _ b.0 b.1) in (
        b.0 ∷ rest.0,
        ap suc rest.1,
        (λ q i e. let c = rest.3 q i in off c.0 c.1 (ap (λ (z : Place). z.height) (some_is (sym c.2 ∙ ap w.home e ∙ here))), rest.2),
        λ q i. elim i [ inl e ↦ (suc h, omega arith, ap w.home e ∙ here) | inr j ↦ let c = rest.3 q j in (c.0, up c.0 c.1, c.2) ],
      )
    where
      off : (j : ℕ) → j ≤ h → j ≡ suc h → ⊥
      off j l e = omega arith

      up : (j : ℕ) → j ≤ h → j ≤ suc h
      up j l = omega arith

  fits : suc (suc height) ≤ page_numbers
  fits =
      let a = firsts height (omega arith) in
      subst (λ z. suc z ≤ page_numbers) a.1 (few_different (r ∷ a.0) page_numbers ((λ q i e. let c = a.3 q i in stray (place t c.0) (ap w.home (sym e) ∙ c.2)), a.2) (λ q i. elim i [
        | inl e ↦ subst (λ z. z < page_numbers) (sym e) (nodes_below s below r n live)
        | inr j ↦ let c = a.3 q j in let b = f.page (place t c.0) q c.2 in nodes_below s below q b.0 b.1.live
      ]))

  shape : IsShape (nodes_of s) raised r (suc height)
  shape = record {
    begins = λ h l. elim (same_or_not h (suc height)) [ inl e ↦ (r, ap (λ z. head (raised z)) e ∙ ap head raised_top) | inr off ↦ let b = k.begins h (lower h l off) in (b.0, ap head (raised_else h off) ∙ b.1) ];
    leads = λ h l. elim (same_or_not h (suc height)) [
      | inl e ↦ subst (λ c. Leads (nodes_of s) (head c) c) (sym (ap raised e ∙ raised_top)) (refl, ap next_of live ∙ over_both.next)
      | inr off ↦ subst (λ c. Leads (nodes_of s) (head c) c) (sym (raised_else h off)) (k.leads h (lower h l off))
    ];
    down = λ h p l e. elim (same_or_not h height) [
      | inl same ↦
          let p_is : p ≡ r = some_is (sym e ∙ ap (λ z. head (raised (suc z))) same ∙ ap head raised_top) in
          ap (λ z. first_of (nodes_of s z)) p_is ∙ ap first_of live ∙ ap (λ c. first_child (pointers c)) over_both.content ∙ sym k.top ∙ ap (λ z. head (chain z)) (sym same) ∙ sym (ap head (raised_else h (below_top h l)))
      | inr off ↦ k.down h p (under h l off) (sym (ap head (raised_else (suc h) (λ u. off (omega arith)))) ∙ e) ∙ sym (ap head (raised_else h (below_top h l)))
    ];
    bottom = λ p e. k.bottom p (sym (ap head (raised_else 0 not_top)) ∙ e);
    few = λ h l. elim (same_or_not h (suc height)) [
      | inl e ↦ subst (λ c. length c ≤ page_numbers) (sym (ap raised e ∙ raised_top)) one
      | inr off ↦ subst (λ c. length c ≤ page_numbers) (sym (raised_else h off)) (k.few h (lower h l off))
    ];
    low = fits;
    top = ap head raised_top;
    alone = raised_else (suc (suc height)) beyond ∙ none_above;
  }
    where
      lower : (h : ℕ) → h ≤ suc height → h ≢ suc height → h ≤ height
      lower h l off = omega arith

      below_top : (h : ℕ) → suc h ≤ suc height → h ≢ suc height
      below_top h l e = omega arith

      under : (h : ℕ) → suc h ≤ suc height → h ≢ height → suc h ≤ height
      under h l off = omega arith

      not_top : 0 ≢ suc height
      not_top e = omega arith

      beyond : suc (suc height) ≢ suc height
      beyond e = omega arith

      one : length (r ∷ []) ≤ page_numbers
      one = small page_numbers k.low
        where
          small : (x : ℕ) → suc height ≤ x → 1 ≤ x
          small x l = omega arith

  -- the new root weighs nothing
  root_weight : level_weight (nodes_of s) [] (r ∷ []) ≡ 0
  root_weight = ap (λ o. (first_weight_of o + 0) + 0) live ∙ ap (λ c. (first_weight (count c) + 0) + 0) over_both.content

  leads_nowhere : children (nodes_of s) (r ∷ []) ≡ []
  leads_nowhere = ap (λ o. merges o ++ []) live ∙ ap (λ o. option_to_list o ++ []) over_both.merging_child

  leads_to_both : pointed (nodes_of s) (r ∷ []) ≡ left ∷ right ∷ []
  leads_to_both = ap (λ o. led_to o ++ []) live ∙ ap (λ c. ends (pointers c) ++ []) over_both.content

  right_lowers : page_weight (nodes_of s) (r ∷ []) right + 4 ≤ page_weight (nodes_of s) [] right + 0
  right_lowers =
      sum _ _ _ (ap (λ c. weight_of (is_in right c) (nodes_of s right)) leads_nowhere) (ap pointer_weight (ap (is_in right) leads_to_both ∙ of_in right (left ∷ right ∷ []) (inr (inl refl))))
    where
      sum : (a b u : ℕ) → a ≡ b → u ≡ 0 → (a + u) + 4 ≤ (b + 4) + 0
      sum a b u e e' = omega arith

  -- and the page beside the old one has its pointer
  level_lowers : level_weight (nodes_of s) (r ∷ []) (chain height) + 4 ≤ level_weight (nodes_of s) [] (chain height) + 0
  level_lowers = go (chain height) refl
    where
      go : (ps : List ℕ) → chain height ≡ ps → level_weight (nodes_of s) (r ∷ []) ps + 4 ≤ level_weight (nodes_of s) [] ps + 0
      go [] e = none_some (sym (ap head e) ∙ k.top)
      go (p ∷ ps) e =
          let p_is : p ≡ left = some_is (sym (ap head e) ∙ k.top) in
          let apart_all : Different (p ∷ ps) = subst Different e (run_different (nodes_of s) (chain height) _ _ _ _ (chain_run f (place t height) right beside)) in
          let right_in : In right ps = elim (subst (λ l. In right l) e beside) [ inl is ↦ absurd (above_not_first f (place t height) right d [] there low (ap head e ∙ ap Some (sym is))) | inr j ↦ j ] in
          let cut = In_split ps right right_in in
          let off = apart cut.0 cut.1 right (subst Different cut.2 apart_all.1) in
          let same : (q : ℕ) → In q ps → q ≢ right → page_weight (nodes_of s) (r ∷ []) q ≡ page_weight (nodes_of s) [] q = λ q j o. page_same (nodes_of s) (nodes_of s) [] (r ∷ []) q refl (ap (is_in q) leads_nowhere)
          (ap (is_in q) leads_to_both ∙ not_in q (left ∷ right ∷ []) (λ i. elim i [ inl is ↦ apart_all.0 q j (is ∙ sym p_is) | inr i' ↦ elim i' [ inl is ↦ o is | inr z ↦ z ] ])) in
          let a = sum_change (page_weight (nodes_of s) []) (page_weight (nodes_of s) (r ∷ [])) cut.0 cut.1 right 4 0
          (λ q j. same q (subst (λ l. In q l) (sym cut.2) (In-left cut.0 (right ∷ cut.1) q j)) (off.0 q j))
          (λ q j. same q (subst (λ l. In q l) (sym cut.2) (In-right cut.0 (right ∷ cut.1) q (inr j))) (off.1 q j)) right_lowers in
          sum (first_weight_of (nodes_of s p)) _ _ _ (subst (λ l. sum_by (page_weight (nodes_of s) (r ∷ [])) l + 4 ≤ sum_by (page_weight (nodes_of s) []) l + 0) (sym cut.2) a) (ap (sum_by (received (p ∷ ps))) leads_nowhere)
        where
          sum : (x a b c : ℕ) → a + 4 ≤ b + 0 → c ≡ 0 → ((x + a) + c) + 4 ≤ ((x + b) + 0) + 0
          sum x a b c u v = omega arith

  pub hoisted : Lowers s (after (RootBecomes t (Some r)) s) t 4
  hoisted = record {
    here =
        let x = to_do_levels (after (RootBecomes t (Some r)) s) t raised r (suc height) (put_name_here s.roots t (Some r)) shape in
        let y = to_do_levels s t chain left height rooted k in
        sum _ _ _ _ _ _ _ _ _ x y
        (ap (λ c. level_weight (nodes_of s) c (raised (suc height))) (raised_else (suc (suc height)) beyond ∙ none_above) ∙ ap (level_weight (nodes_of s) []) raised_top ∙ root_weight)
        (ap (λ c. level_weight (nodes_of s) c (raised height)) raised_top ∙ ap (level_weight (nodes_of s) (r ∷ [])) (raised_else height off))
        (ap (λ c. level_weight (nodes_of s) c (chain height)) k.alone)
        (over_same (level_at (nodes_of s) chain) (level_at (nodes_of s) raised) height
        (λ h l. ap (λ c. level_weight (nodes_of s) c (raised h)) (raised_else (suc h) (up h l)) ∙ ap (level_weight (nodes_of s) (chain (suc h))) (raised_else h (under h l))))
        level_lowers;
    pages = one_page _ _ _ _ _ (pages_levels (after (RootBecomes t (Some r)) s) t raised r (suc height) (put_name_here s.roots t (Some r)) shape) (pages_levels s t chain left height rooted k) (ap length raised_top) (ap length (raised_else height off)) (over_same (λ h. length (chain h)) (λ h. length (raised h)) height (λ h l. ap length (raised_else h (under h l))));
    others = λ u e. ap (to_do_under page_numbers (nodes_of s) []) (put_name_elsewhere s.roots t u (Some r) e);
  }
    where
      one_page : (x y a b c : ℕ) {d g : ℕ} → x ≡ a + (b + c) → y ≡ d + g → a ≡ 1 → b ≡ d → c ≡ g → x ≤ y + 1
      one_page x y a b c e e' e1 e2 e3 = omega arith

      beyond : suc (suc height) ≢ suc height
      beyond e = omega arith

      off : height ≢ suc height
      off e = omega arith

      up : (h : ℕ) → h < height → suc h ≢ suc height
      up h l e = omega arith

      under : (h : ℕ) → h < height → h ≢ suc height
      under h l e = omega arith

      sum : (v u x y a b c d g : ℕ) → x ≡ a + (b + c) → y ≡ d + g → a ≡ 0 → b ≡ v → d ≡ u → c ≡ g → v + 4 ≤ u + 0 → x + 4 ≤ y
      sum v u x y a b c d g p1 p2 p3 p4 p5 p6 l = omega arith

pub swap_lowers : SwapLowers
swap_lowers m w t number a is named root k =
    let h : ℕ = k.hoisting.height in
    let o = root_in is.formed t a.old root in
    let left_in = (now_law m w (place t h) number [] a.old k.hoisting.stood named o.1 o.3 o.5).0 in
    let shape = shape_of m.state w is.formed is.below t a.old root in
    let at : place t h ≡ place t shape.0 = some_is (sym (is.formed.homed (place t h) a.old left_in) ∙ is.formed.homed (place t shape.0) a.old (head_in _ a.old shape.1.top)) in
    let d = k.hoisting.beside named root in
    hoisted m.state w is.formed is.below t a.old k.right a.new shape.0 k.root d.0 k.at root shape.1 (subst (λ z. In k.right (w.chain z)) at d.1) d.2 (subst (λ l. Below [] l) (sym d.3) k.hoisting.beyond) k.own.stray (own_node k.own) k.over
