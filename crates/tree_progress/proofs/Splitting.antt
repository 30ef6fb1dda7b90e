-- A long page becomes its left half, and its right half comes into the chain behind it.
use Rattle.std.proofs.Common.{◌≡◌, ◌≢◌, ℕ, zero, suc, ◌+◌, ◌-◌, ◌/◌, min, ◌≤◌, ◌<◌, ◌^◌, Bool, true, false, sum_by, List, [], ◌∷◌, ◌++◌, length, length-append, length-take, length-drop, append_assoc, Option, Some, None, option_map, option_to_list, sym, refl, ap, ◌∙◌, subst, inl, inr, arith}
use Rattle.std.proofs.lemmas.List.{map-append}
use Rattle.sled_nodes.proofs.Basics.{some_is, same_or_not}
use Rattle.sled_nodes.specs.Halves.{first_half_of, second_half_of}
use Rattle.sled_nodes.specs.Node.{pointers, count}
use Rattle.sled_nodes.specs.Order.{Key}
use Rattle.sled_store.specs.In.{In}
use Rattle.sled_store.specs.State.{State, Nodes, nodes_of, PageBecomes, after}
use Rattle.sled_store.specs.Update.{put_at}
use Rattle.sled_store.specs.theory.Facts.{put_here, put_elsewhere}
use Rattle.sled_nodes.specs.declared.node.Data.{Data}
use Rattle.sled_nodes.specs.declared.node.Data.TheVariants.{Leaf, Index}
use Rattle.sled_nodes.specs.declared.node.Node.{Node}
use Rattle.sled_store.specs.declared.page.Page.{Page}
use Rattle.tree_laws.specs.Action.{IsSplit}
use Rattle.tree_laws.specs.Forest.{Tree, Forest, place, head, first_child, WellFormed}
use Rattle.tree_laws.specs.Contents.{page_numbers, next_of, first_of}
use Rattle.tree_laws.specs.Snapshot.{IsOrphan, nodes_at}
use Rattle.tree_laws.proofs.Cover.{chain_run, later_in}
use Rattle.tree_laws.proofs.Fuel.{run_different, few_different, nodes_below}
use Rattle.tree_laws.proofs.Runs.{In-left, In-right, In_cases}
use Rattle.tree_laws.proofs.Split.{halves_count, halves_pointers, halves_first}
use Rattle.tree_laws.proofs.Splitting.{own_node}
use Rattle.tree_laws.proofs.Stable.{now_law}
use Rattle.tree_progress.specs.Weights.{weight, child_weight, pointer_weight, received_weight}
use Rattle.tree_progress.specs.ToDo.{is_in, led_to, merges, pointed, children, weight_of, first_weight_of, page_weight, level_weight}
use Rattle.tree_progress.specs.Laws.{Lowers, InstallLowers}
use Rattle.tree_progress.proofs.Arithmetic.{split_lowers, split_lowers_first, split_lowers_child}
use Rattle.tree_progress.proofs.Among.{not_in, in_alike, child_by, pointed_by}
use Rattle.tree_progress.proofs.Sums.{no_more, sum_same}
use Rattle.tree_progress.proofs.Levels.{IsAlike, received, level_change, level_same, children_same, pointed_same, children_change, page_same, page_below}
use Rattle.tree_progress.proofs.Shapes.{Leads, IsShape, level_at, shape_of}
use Rattle.tree_progress.proofs.Changing.{levels_at, now_is, others_are, off_level, others_stay, here_changes, here_counts, leads_frame}
use Rattle.tree_progress.proofs.Pointing.{ends}
use Rattle.tree_progress.proofs.Replacing.{IsMiddle, in_middle}
use Rattle.tree_progress.proofs.Relinking.{shape_relinked, head_front, leads_behind, pointed_middle, children_middle}

module _ (s : State) (w : Forest) (f : WellFormed (nodes_of s) s.roots w) (below : (p : ℕ) (g : Page) → s.pages p ≡ Some g → p < 2 ^ 64) (t : Tree) (k p q : ℕ) (i : In p (w.chain (place t k))) (n left right : Node) (version root : ℕ)
    (live : nodes_of s p ≡ Some n) (there : nodes_of s q ≡ Some right) (stray : IsOrphan w q) (awake : n.merging ≡ false) (free : n.merging_child ≡ None) (r : IsSplit k n left right q) (no_less : count left.content ≤ count right.content) (one_more : count right.content ≤ suc (count left.content)) (long : 17 ≤ count left.content + count right.content) (xs ys : List ℕ) (middle : IsMiddle (w.chain (place t k)) xs ys p) (rooted : s.roots t ≡ Some root) where
  abbrev g : Page
  g = record { version = version; node = left }

  abbrev after_it : Nodes
  after_it = nodes_of (after (PageBecomes p (Some g)) s)

  abbrev chain : ℕ → List ℕ
  chain h = w.chain (place t h)

  now : after_it p ≡ Some left
  now = now_is s w f below t k p i g

  others : (z : ℕ) → z ≢ p → after_it z ≡ nodes_of s z
  others = others_are s w f below t k p i g

  q_out : (h : ℕ) → ¬ (In q (chain h))
  q_out h j = stray (place t h) (f.homed (place t h) q j)

  q_off : q ≢ p
  q_off e = q_out k (subst (λ z. In z (chain k)) (sym e) i)

  q_now : after_it q ≡ Some right
  q_now = others q q_off ∙ there

  longer : ℕ → List ℕ
  longer = put_at chain k (xs ++ (p ∷ (q ∷ ys)))

  longer_here : longer k ≡ xs ++ (p ∷ (q ∷ ys))
  unfolding longer
  longer_here = put_here chain k (xs ++ (p ∷ (q ∷ ys)))

  longer_else : (h : ℕ) → h ≢ k → longer h ≡ chain h
  unfolding longer
  longer_else h off = put_elsewhere chain k h (xs ++ (p ∷ (q ∷ ys))) off

  size : count n.content ≡ count left.content + count right.content
  size = halves_count n.content left.content right.content r.halves

  -- its first pointer stays
  first_same : first_child (pointers left.content) ≡ first_child (pointers n.content)
  first_same = halves_first k left.lo left.hi n.content left.content right.content r.halves r.left_sound.holds

  firsts : (z : ℕ) → first_of (after_it z) ≡ first_of (nodes_of s z)
  firsts z = elim (same_or_not z p) [
    | inl e ↦ ap first_of (ap after_it e ∙ now) ∙ first_same ∙ sym (ap first_of (ap (nodes_of s) e ∙ live))
    | inr off ↦ ap first_of (others z off)
  ]

  shape : (height : ℕ) → IsShape (nodes_of s) chain root height → IsShape after_it longer root height
  shape height a = shape_relinked (nodes_of s) after_it chain longer root height a
      (λ h. elim (same_or_not h k) [
        | inl e ↦ ap (λ z. head (longer z)) e ∙ ap head longer_here ∙ head_front xs (q ∷ ys) p ∙ sym (head_front xs ys p) ∙ sym (ap head middle.is) ∙ ap (λ z. head (chain z)) (sym e)
        | inr off ↦ ap head (longer_else h off)
      ])
      firsts
      (λ h l. elim (same_or_not h k) [
        | inl e ↦ subst (λ z. Leads after_it (head z) z) (sym (ap longer e ∙ longer_here)) (subst (λ z. Leads after_it z (xs ++ (p ∷ (q ∷ ys)))) (head_front xs ys p ∙ sym (head_front xs (q ∷ ys) p))
            (leads_behind (nodes_of s) after_it xs (p ∷ ys) (p ∷ (q ∷ ys)) _ (λ z j. ap next_of (others z (middle.early z j))) parted (subst (λ z. Leads (nodes_of s) (head z) z) middle.is (subst (λ z. Leads (nodes_of s) (head (chain z)) (chain z)) e (a.leads h l)))))
        | inr off ↦ subst (λ z. Leads after_it (head z) z) (sym (longer_else h off)) (leads_frame (nodes_of s) after_it (chain h) _ (λ z j. ap next_of (others z (off_level s w f below t k p i g h z off j))) (a.leads h l))
      ])
      (λ h l. elim (same_or_not h k) [
        | inl e ↦ subst (λ z. length z ≤ page_numbers) (sym (ap longer e ∙ longer_here)) fits
        | inr off ↦ subst (λ z. length z ≤ page_numbers) (sym (longer_else h off)) (a.few h l)
      ])
    where
      parted : (mid : Option ℕ) → Leads (nodes_of s) mid (p ∷ ys) → Leads after_it mid (p ∷ (q ∷ ys))
      parted mid l = (l.0, (ap next_of now ∙ r.left_next, subst (λ o. Leads after_it o ys) (ap next_of live ∙ sym r.right_next ∙ sym (ap next_of q_now)) (leads_frame (nodes_of s) after_it ys _ (λ z j. ap next_of (others z (middle.late z j))) l.1)))

      fits : length (xs ++ (p ∷ (q ∷ ys))) ≤ page_numbers
      fits =
          let a = few_different (q ∷ chain k) page_numbers ((λ z j e. q_out k (subst (λ y. In y (chain k)) e j)), run_different (nodes_of s) (chain k) _ _ _ _ (chain_run f (place t k) p i)) (λ z j. elim j [
            | inl e ↦ subst (λ y. y < page_numbers) (sym e) (nodes_below s below q right there)
            | inr j' ↦ let b = f.page (place t k) z (f.homed (place t k) z j') in nodes_below s below z b.0 b.1.live
          ]) in
          sum _ _ _ (ap length middle.is ∙ length-append xs (p ∷ ys)) (length-append xs (p ∷ (q ∷ ys))) a
        where
          sum : (u v x : ℕ) → u ≡ length xs + suc (length ys) → v ≡ length xs + suc (suc (length ys)) → suc u ≤ x → v ≤ x
          sum u v x e e' l = omega arith

  above_same : (z : ℕ) → In z (chain (suc k)) → after_it z ≡ nodes_of s z
  above_same z j = others z (off_level s w f below t k p i g (suc k) z next_up j)
    where
      next_up : suc k ≢ k
      next_up e = omega arith

  alike_here : (z : ℕ) → z ≢ p → IsAlike (nodes_of s) after_it (chain (suc k)) (chain (suc k)) z
  alike_here z off = record { first = ap first_weight_of (others z off); other = page_below (nodes_of s) after_it (chain (suc k)) z above_same (others z off) }

  -- the right half has no pointer yet, and is no merging child
  no_child : ¬ (In q (children (nodes_of s) (chain (suc k))))
  no_child j =
      let a = child_by (nodes_of s) (chain (suc k)) q j in
      let b = f.child (place t (suc k)) a.page a.node a.among a.live q a.child in
      stray (place t k) (f.pointer t k a.page a.node a.among a.live b.0 q (later_in a.node.content b.0 q b.1)).homed

  no_pointer : ¬ (In q (pointed (nodes_of s) (chain (suc k))))
  no_pointer j = let a = pointed_by (nodes_of s) (chain (suc k)) q j in stray (place t k) (f.pointer t k a.page a.node a.among a.live a.key q a.pointer).homed

  q_weighs : page_weight after_it (chain (suc k)) q ≡ weight (count right.content) + 4
  q_weighs = sum _ _ _
      (ap (λ b. weight_of b (after_it q)) (ap (is_in q) (children_same (nodes_of s) after_it (chain (suc k)) above_same) ∙ not_in q _ no_child) ∙ ap (weight_of false) q_now)
      (ap pointer_weight (ap (is_in q) (pointed_same (nodes_of s) after_it (chain (suc k)) above_same) ∙ not_in q _ no_pointer))
    where
      sum : (a u x : ℕ) → a ≡ x → u ≡ 4 → a + u ≡ x + 4
      sum a u x e e' = omega arith

  -- no other page comes or goes
  kids_here : sum_by (received (xs ++ (p ∷ (q ∷ ys)))) (children after_it (chain (suc k))) + 0 ≤ sum_by (received (xs ++ (p ∷ ys))) (children (nodes_of s) (chain (suc k))) + 0
  kids_here = same _ _
      (ap (sum_by (received (xs ++ (p ∷ (q ∷ ys))))) (children_same (nodes_of s) after_it (chain (suc k)) above_same)
      ∙ sum_same (received (xs ++ (p ∷ ys))) (received (xs ++ (p ∷ (q ∷ ys)))) (children (nodes_of s) (chain (suc k))) (λ z j. ap received_weight (in_alike z (xs ++ (p ∷ ys)) (xs ++ (p ∷ (q ∷ ys))) (shrunk z (λ e. no_child (subst (λ y. In y (children (nodes_of s) (chain (suc k)))) e j))) (grown z))))
    where
      same : (a b : ℕ) → a ≡ b → a + 0 ≤ b + 0
      same a b e = omega arith

      grown : (z : ℕ) → In z (xs ++ (p ∷ ys)) → In z (xs ++ (p ∷ (q ∷ ys)))
      grown z j = elim (In_cases xs (p ∷ ys) z j) [ inl a ↦ In-left xs _ z a | inr b ↦ In-right xs _ z (elim b [ inl e ↦ inl e | inr e ↦ inr (inr e) ]) ]

      shrunk : (z : ℕ) → z ≢ q → In z (xs ++ (p ∷ (q ∷ ys))) → In z (xs ++ (p ∷ ys))
      shrunk z off j = elim (In_cases xs (p ∷ (q ∷ ys)) z j) [ inl a ↦ In-left xs _ z a | inr b ↦ In-right xs _ z (elim b [ inl e ↦ inl e | inr b' ↦ inr (elim b' [ inl e ↦ absurd (off e) | inr e ↦ e ]) ]) ]

  own : level_weight after_it (chain (suc k)) (xs ++ (p ∷ (q ∷ ys))) + (3 + 0) ≤ level_weight (nodes_of s) (chain (suc k)) (xs ++ (p ∷ ys)) + (0 + 0)
  own = level_change (nodes_of s) after_it (chain (suc k)) (chain (suc k)) xs [] (q ∷ []) ys p 3 0 0 0 (λ z j. alike_here z (middle.early z j)) (λ z j. alike_here z (middle.late z j))
      (λ u. first _ _ _ (ap first_weight_of now) (ap first_weight_of live ∙ ap (λ z. z - 10) size) q_weighs (split_lowers_first (count left.content) (count right.content) no_less one_more long))
      (λ u. other (is_in p (children (nodes_of s) (chain (suc k)))) _ _ _ _ _ (ap (λ b. weight_of b (after_it p)) (ap (is_in p) (children_same (nodes_of s) after_it (chain (suc k)) above_same)) ∙ ap (weight_of (is_in p (children (nodes_of s) (chain (suc k))))) now)
      (ap (weight_of (is_in p (children (nodes_of s) (chain (suc k))))) live) (ap pointer_weight (ap (is_in p) (pointed_same (nodes_of s) after_it (chain (suc k)) above_same))) q_weighs (lighter (is_in p (children (nodes_of s) (chain (suc k))))))
      kids_here
    where
      first : (a b x : ℕ) → a ≡ count left.content - 10 → b ≡ (count left.content + count right.content) - 10 → x ≡ weight (count right.content) + 4 → (count left.content - 10) + (weight (count right.content) + 4) + 3 ≤ (count left.content + count right.content) - 10 → a + (0 + x) + 3 ≤ b + 0 + 0
      first a b x e e' e'' l = omega arith

      lighter : (b : Bool) → weight_of b (Some left) + (weight (count right.content) + 4) + 3 ≤ weight_of b (Some n)
      lighter false = plain _ _ (ap weight size) (split_lowers (count left.content) (count right.content) no_less one_more long)
        where
          plain : (a b : ℕ) → b ≡ a → weight (count left.content) + (weight (count right.content) + 4) + 3 ≤ a → weight (count left.content) + (weight (count right.content) + 4) + 3 ≤ b
          plain a b e l = omega arith
      lighter true = plain _ _ (ap (λ b. child_weight b (count left.content)) r.calm.0) (ap (λ b. child_weight b (count n.content)) awake) (split_lowers_child (count left.content) (count right.content) no_less one_more long)
        where
          plain : (a b : ℕ) → a ≡ count left.content + 5 → b ≡ count n.content + 5 → (count left.content + 5) + (weight (count right.content) + 4) + 3 ≤ (count left.content + count right.content) + 5 → a + (weight (count right.content) + 4) + 3 ≤ b
          plain a b e e' l = omega (arith, size)

      other : (v : Bool) (a b u u' x : ℕ) → a ≡ weight_of v (Some left) → b ≡ weight_of v (Some n) → u ≡ u' → x ≡ weight (count right.content) + 4 → weight_of v (Some left) + (weight (count right.content) + 4) + 3 ≤ weight_of v (Some n) → (a + u) + (0 + x) + 3 ≤ (b + u') + 0 + 0
      other v a b u u' x e e' e'' e3 l = omega arith

  kids_same : children after_it (p ∷ (q ∷ [])) ≡ children (nodes_of s) (p ∷ [])
  kids_same =
      ap (λ o. merges o ++ (merges (after_it q) ++ [])) now ∙ ap (λ o. option_to_list o ++ (merges (after_it q) ++ [])) r.calm.1 ∙ ap (λ o. merges o ++ []) q_now ∙ ap (λ o. option_to_list o ++ []) r.calm.3
      ∙ sym (ap (λ o. merges o ++ []) live ∙ ap (λ o. option_to_list o ++ []) free)

  kids_none : (F : ℕ → ℕ) → sum_by F (children after_it (p ∷ (q ∷ []))) + 0 ≤ sum_by F (children (nodes_of s) (p ∷ [])) + 0
  kids_none F = same _ _ (ap (sum_by F) kids_same)
    where
      same : (a b : ℕ) → a ≡ b → a + 0 ≤ b + 0
      same a b e = omega arith

  -- both halves lead to what the page led to
  leads_same : pointed after_it (p ∷ (q ∷ [])) ≡ pointed (nodes_of s) (p ∷ [])
  leads_same =
      ap (λ o. led_to o ++ (led_to (after_it q) ++ [])) now ∙ ap (λ o. ends (pointers left.content) ++ (led_to o ++ [])) q_now ∙ sym (append_assoc (ends (pointers left.content)) (ends (pointers right.content)) [])
      ∙ ap (λ l. l ++ []) (sym (map-append (λ (e : Key × ℕ). e.1) (pointers left.content) (pointers right.content))) ∙ ap (λ l. ends l ++ []) (sym (halves_pointers n.content left.content right.content r.halves)) ∙ sym (ap (λ o. led_to o ++ []) live)

  lower : (j : ℕ) → j ≢ k → level_weight after_it (xs ++ (p ∷ (q ∷ ys))) (chain j) + 0 ≤ level_weight (nodes_of s) (xs ++ (p ∷ ys)) (chain j) + 0
  lower j off = level_same (nodes_of s) after_it (xs ++ (p ∷ ys)) (xs ++ (p ∷ (q ∷ ys))) (chain j) 0 0
      (λ z h. let same = others z (off_level s w f below t k p i g j z off h) in record {
        first = ap first_weight_of same;
        other = page_same (nodes_of s) after_it (xs ++ (p ∷ ys)) (xs ++ (p ∷ (q ∷ ys))) z same
            (children_middle (nodes_of s) after_it xs (p ∷ []) (p ∷ (q ∷ [])) ys z early late (λ x. subst (λ l. In z l) kids_same x) (λ x. subst (λ l. In z l) (sym kids_same) x))
            (pointed_middle (nodes_of s) after_it xs (p ∷ []) (p ∷ (q ∷ [])) ys z early late (λ x. subst (λ l. In z l) leads_same x) (λ x. subst (λ l. In z l) (sym leads_same) x));
      })
      (children_change (nodes_of s) after_it (received (chain j)) xs (p ∷ []) (p ∷ (q ∷ [])) ys 0 0 early late (kids_none (received (chain j))))
    where
      early : (z : ℕ) → In z xs → after_it z ≡ nodes_of s z
      early z h = others z (middle.early z h)

      late : (z : ℕ) → In z ys → after_it z ≡ nodes_of s z
      late z h = others z (middle.late z h)

  own_here : (h : ℕ) → h ≡ k → level_at after_it longer h + 3 ≤ level_at (nodes_of s) chain h + 0
  own_here h e = sum _ _ _ _
      (ap (λ z. level_weight after_it z (longer h)) (ap (λ z. longer (suc z)) e ∙ longer_else (suc k) up) ∙ ap (level_weight after_it (chain (suc k))) (ap longer e ∙ longer_here))
      (ap (λ z. level_weight (nodes_of s) (chain (suc z)) (chain z)) e ∙ ap (level_weight (nodes_of s) (chain (suc k))) middle.is) own
    where
      up : suc k ≢ k
      up e = omega arith

      sum : (a b x y : ℕ) → a ≡ x → b ≡ y → x + (3 + 0) ≤ y + (0 + 0) → a + 3 ≤ b + 0
      sum a b x y e e' l = omega arith

  lower_here : (j : ℕ) → suc j ≡ k → level_at after_it longer j + 0 ≤ level_at (nodes_of s) chain j + 0
  lower_here j e = sum _ _ _ _
      (ap (λ z. level_weight after_it z (longer j)) (ap longer e ∙ longer_here) ∙ ap (level_weight after_it (xs ++ (p ∷ (q ∷ ys)))) (longer_else j off))
      (ap (λ z. level_weight (nodes_of s) z (chain j)) (ap chain e ∙ middle.is)) (lower j off)
    where
      off : j ≢ k
      off u = omega arith

      sum : (a b x y : ℕ) → a ≡ x → b ≡ y → x + 0 ≤ y + 0 → a + 0 ≤ b + 0
      sum a b x y e e' l = omega arith

  both_levels : (h : ℕ) → h ≡ k → levels_at after_it longer h + 3 ≤ levels_at (nodes_of s) chain h + 0
  both_levels zero e = own_here zero e
  both_levels (suc j) e = sum _ _ _ _ (own_here (suc j) e) (lower_here j e)
    where
      sum : (a b x y : ℕ) → a + 3 ≤ x + 0 → b + 0 ≤ y + 0 → (a + b) + 3 ≤ (x + y) + 0
      sum a b x y u v = omega arith

  pub split_page : Lowers s (after (PageBecomes p (Some g)) s) t 3
  split_page =
      let a = shape_of s w f below t root rooted in
      record {
        here = no_more _ _ (here_changes s w f below t k p i g root a.0 3 0 longer rooted a.1 (shape a.0 a.1) longer_else (both_levels k refl));
        pages = here_counts s w f below t k p i g root a.0 longer rooted a.1 (shape a.0 a.1) longer_else (one_page _ _ (ap length longer_here ∙ length-append xs (p ∷ (q ∷ ys))) (ap length middle.is ∙ length-append xs (p ∷ ys)));
        others = others_stay s w f below t k p i g;
      }
    where
      one_page : (x y : ℕ) → x ≡ length xs + suc (suc (length ys)) → y ≡ length xs + suc (length ys) → x ≤ y + 1
      one_page x y e e' = omega arith

halved : (n l r : ℕ) → l ≡ min (n / 2) n → r ≡ n - n / 2 → 16 < n → (l ≤ r) × (r ≤ suc l) × (17 ≤ l + r)
halved n l r e e' long = (omega arith, omega arith, omega arith)

-- the halves of a long page are alike, up to one entry
half_sizes : (c : Data) → 16 < count c → (count (first_half_of c) ≤ count (second_half_of c)) × (count (second_half_of c) ≤ suc (count (first_half_of c))) × (17 ≤ count (first_half_of c) + count (second_half_of c))
half_sizes (Leaf es) l = halved (length es) _ _ (length-take (length es / 2) es) (length-drop (length es / 2) es) l
half_sizes (Index es) l = halved (length es) _ _ (length-take (length es / 2) es) (length-drop (length es / 2) es) l

pub install_lowers : InstallLowers
install_lowers m w t number a node version is named k page long is_left is_right =
    let h : ℕ = k.height in
    let p : ℕ = a.page.pid in
    let n : Node = a.page.node in
    let node_is : node ≡ n = k.seen.view.speaks (record { version = a.page.version; node = node }) page refl in
    let live : nodes_at m p ≡ Some n = ap (option_map (λ (z : Page). z.node)) page ∙ ap Some node_is in
    let i = (now_law m w (place t h) number n.lo p k.seen.stood named n live k.seen.is_open.not_merging).0 in
    let there : nodes_at m a.right ≡ Some k.right = own_node k.own in
    let left_is : a.left.content ≡ first_half_of n.content = ap (λ (z : Node). z.content) is_left in
    let right_is : k.right.content ≡ second_half_of n.content = ap (λ (z : Node). z.content) (some_is (sym there ∙ is_right)) in
    let sizes = half_sizes n.content long in
    let cut = in_middle is.formed (place t h) p i in
    let root = is.rooted t number named in
    split_page m.state w is.formed is.below t h p a.right i n a.left k.right version root.0 live there k.own.stray k.seen.is_open.not_merging k.seen.is_open.free k.split
    (subst (λ z. count z ≤ count k.right.content) (sym left_is) (subst (λ z. count (first_half_of n.content) ≤ count z) (sym right_is) sizes.0))
    (subst (λ z. count k.right.content ≤ suc (count z)) (sym left_is) (subst (λ z. count z ≤ suc (count (first_half_of n.content))) (sym right_is) sizes.1))
    (subst (λ z. 17 ≤ count z + count k.right.content) (sym left_is) (subst (λ z. 17 ≤ count (first_half_of n.content) + count z) (sym right_is) sizes.2))
    cut.0 cut.1 cut.2 root.1
