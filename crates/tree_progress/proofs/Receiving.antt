-- The page before a capped child receives it, and the child leaves its chain.
use Rattle.std.proofs.Common.{◌≡◌, ◌≢◌, ℕ, zero, suc, ◌+◌, ◌-◌, ◌≤◌, ◌<◌, ◌^◌, Bool, true, false, sum_by, List, [], ◌∷◌, ◌++◌, length, length-append, append_assoc, Option, Some, None, option_map, option_to_list, sym, refl, ap, ◌∙◌, subst, inl, inr, arith}
use Rattle.std.proofs.lemmas.List.{map-append}
use Rattle.sled_nodes.proofs.Basics.{some_is, same_or_not}
use Rattle.sled_nodes.specs.Halves.{after_receiving}
use Rattle.sled_nodes.specs.Node.{pointers, count}
use Rattle.sled_nodes.specs.Order.{Key, Below}
use Rattle.sled_store.specs.In.{In}
use Rattle.sled_store.specs.State.{State, Nodes, nodes_of, PageBecomes, after}
use Rattle.sled_store.specs.Update.{put_at}
use Rattle.sled_store.specs.theory.Facts.{put_here, put_elsewhere}
use Rattle.sled_nodes.specs.declared.node.Node.{Node}
use Rattle.sled_store.specs.declared.page.Page.{Page}
use Rattle.tree_laws.specs.Forest.{Tree, Forest, place, head, first_child, WellFormed}
use Rattle.tree_laws.specs.Contents.{page_numbers, next_of, first_of}
use Rattle.tree_laws.specs.Snapshot.{nodes_at}
use Rattle.tree_laws.specs.theory.Action.{IsReceived}
use Rattle.tree_laws.specs.theory.Drops.{Different}
use Rattle.tree_laws.proofs.Cover.{holds_at, later_in, one_parent, chain_run}
use Rattle.tree_laws.proofs.Fuel.{run_different}
use Rattle.tree_laws.proofs.Halving.{joined_law}
use Rattle.tree_laws.proofs.Inside.{behind, covers_itself}
use Rattle.tree_laws.proofs.Known.{sound_at}
use Rattle.tree_laws.proofs.Merges.{receives_from}
use Rattle.tree_laws.proofs.Pairs.{not_below_empty}
use Rattle.tree_laws.proofs.Receive.{followed}
use Rattle.tree_laws.proofs.Runs.{In-left, In-right, In_cases}
use Rattle.tree_laws.proofs.Split.{halves_count, halves_pointers, halves_first}
use Rattle.tree_laws.proofs.Stable.{now_law}
use Rattle.tree_laws.proofs.Walks.{rises_at}
use Rattle.tree_progress.specs.Weights.{weight, child_weight, pointer_weight, received_weight}
use Rattle.tree_progress.specs.ToDo.{is_in, led_to, merges, pointed, children, weight_of, first_weight_of, page_weight, level_weight}
use Rattle.tree_progress.specs.Laws.{Lowers, ReceiveLowers}
use Rattle.tree_progress.proofs.Arithmetic.{receive_lowers, receive_lowers_first}
use Rattle.tree_progress.proofs.Among.{IsChildOf, of_in, in_alike, child_in, pointed_in}
use Rattle.tree_progress.proofs.Sums.{no_more}
use Rattle.tree_progress.proofs.Levels.{IsAlike, received, level_change, level_same, children_same, pointed_same, children_change, page_same, page_below}
use Rattle.tree_progress.proofs.Shapes.{Leads, IsShape, level_at, shape_of}
use Rattle.tree_progress.proofs.Changing.{levels_at, now_is, others_are, off_level, others_stay, here_changes, here_counts, leads_frame}
use Rattle.tree_progress.proofs.Pointing.{apart, ends}
use Rattle.tree_progress.proofs.Replacing.{IsMiddle, in_middle}
use Rattle.tree_progress.proofs.Relinking.{shape_relinked, head_front, leads_behind, pointed_middle, children_middle, child_change}

module _ (s : State) (w : Forest) (f : WellFormed (nodes_of s) s.roots w) (below : (p : ℕ) (g : Page) → s.pages p ≡ Some g → p < 2 ^ 64) (t : Tree) (k p c : ℕ) (i : In p (w.chain (place t k))) (n d both : Node) (version root : ℕ)
    (live : nodes_of s p ≡ Some n) (there : nodes_of s c ≡ Some d) (next : n.next ≡ Some c) (awake : n.merging ≡ false) (free : n.merging_child ≡ None) (capped : d.merging ≡ true) (few : count n.content ≤ 16) (r : IsReceived k n d both) (xs ys : List ℕ) (around : w.chain (place t k) ≡ xs ++ (p ∷ (c ∷ ys))) (middle : IsMiddle (w.chain (place t k)) xs (c ∷ ys) p) (rooted : s.roots t ≡ Some root) where
  abbrev g : Page
  g = record { version = version; node = both }

  abbrev after_it : Nodes
  after_it = nodes_of (after (PageBecomes p (Some g)) s)

  abbrev chain : ℕ → List ℕ
  chain h = w.chain (place t h)

  now : after_it p ≡ Some both
  now = now_is s w f below t k p i g

  others : (q : ℕ) → q ≢ p → after_it q ≡ nodes_of s q
  others = others_are s w f below t k p i g

  c_in : In c (chain k)
  c_in = subst (λ z. In c z) (sym around) (In-right xs _ c (inr (inl refl)))

  c_off : c ≢ p
  c_off = middle.late c (inl refl)

  shorter : ℕ → List ℕ
  shorter = put_at chain k (xs ++ (p ∷ ys))

  shorter_here : shorter k ≡ xs ++ (p ∷ ys)
  unfolding shorter
  shorter_here = put_here chain k (xs ++ (p ∷ ys))

  shorter_else : (h : ℕ) → h ≢ k → shorter h ≡ chain h
  unfolding shorter
  shorter_else h off = put_elsewhere chain k h (xs ++ (p ∷ ys)) off

  -- the child is a merging child of one page above, and has its pointer
  parent : (q : ℕ) × (b : Node) × In q (chain (suc k)) × (nodes_of s q ≡ Some b) × (b.merging_child ≡ Some c)
  parent =
      let h = f.page (place t k) c (f.homed (place t k) c c_in) in
      h.1.parent (subst (λ (z : Node). z.merging ≡ true) (some_is (sym there ∙ h.1.live)) capped)

  c_free : d.merging_child ≡ None
  c_free = let h = f.page (place t k) c (f.homed (place t k) c c_in) in let same : h.0 ≡ d = some_is (sym h.1.live ∙ there) in subst (λ (z : Node). z.merging_child ≡ None) same (h.1.calm (subst (λ (z : Node). z.merging ≡ true) (sym same) capped))

  later_pointer : (key : Key) × In (key, c) (pointers parent.1.content)
  later_pointer = let b = f.child (place t (suc k)) parent.0 parent.1 parent.2 parent.3 c parent.4 in (b.0, later_in parent.1.content b.0 c b.1)

  is_child : is_in c (children (nodes_of s) (chain (suc k))) ≡ true
  is_child = of_in c _ (child_in (record { page = parent.0; among = parent.2; node = parent.1; live = parent.3; child = parent.4 }))

  is_pointed : is_in c (pointed (nodes_of s) (chain (suc k))) ≡ true
  is_pointed = of_in c _ (pointed_in (record { page = parent.0; among = parent.2; node = parent.1; live = parent.3; key = later_pointer.0; pointer = later_pointer.1 }))

  c_weighs : page_weight (nodes_of s) (chain (suc k)) c ≡ count d.content + 4
  c_weighs = sum _ _ (ap (λ b. weight_of b (nodes_of s c)) is_child ∙ ap (weight_of true) there ∙ ap (λ b. child_weight b (count d.content)) capped) (ap pointer_weight is_pointed)
    where
      sum : (a u : ℕ) → a ≡ count d.content + 4 → u ≡ 0 → a + u ≡ count d.content + 4
      sum a u e e' = omega arith

  size : count both.content ≡ count n.content + count d.content
  size = halves_count both.content n.content d.content r.halves

  -- its first pointer stays
  first_same : first_child (pointers both.content) ≡ first_child (pointers n.content)
  first_same = sym (halves_first k n.lo n.hi both.content n.content d.content r.halves (holds_at f (place t k) p n i live))

  firsts : (q : ℕ) → first_of (after_it q) ≡ first_of (nodes_of s q)
  firsts q = elim (same_or_not q p) [
    | inl e ↦ ap first_of (ap after_it e ∙ now) ∙ first_same ∙ sym (ap first_of (ap (nodes_of s) e ∙ live))
    | inr off ↦ ap first_of (others q off)
  ]

  shape : (height : ℕ) → IsShape (nodes_of s) chain root height → IsShape after_it shorter root height
  shape height a = shape_relinked (nodes_of s) after_it chain shorter root height a
      (λ h. elim (same_or_not h k) [
        | inl e ↦ ap (λ z. head (shorter z)) e ∙ ap head shorter_here ∙ head_front xs ys p ∙ sym (head_front xs (c ∷ ys) p) ∙ sym (ap head around) ∙ ap (λ z. head (chain z)) (sym e)
        | inr off ↦ ap head (shorter_else h off)
      ])
      firsts
      (λ h l. elim (same_or_not h k) [
        | inl e ↦ subst (λ z. Leads after_it (head z) z) (sym (ap shorter e ∙ shorter_here)) (subst (λ z. Leads after_it z (xs ++ (p ∷ ys))) (head_front xs (c ∷ ys) p ∙ sym (head_front xs ys p))
            (leads_behind (nodes_of s) after_it xs (p ∷ (c ∷ ys)) (p ∷ ys) _ (λ q j. ap next_of (others q (middle.early q j))) joined (subst (λ z. Leads (nodes_of s) (head z) z) around (subst (λ z. Leads (nodes_of s) (head (chain z)) (chain z)) e (a.leads h l)))))
        | inr off ↦ subst (λ z. Leads after_it (head z) z) (sym (shorter_else h off)) (leads_frame (nodes_of s) after_it (chain h) _ (λ q j. ap next_of (others q (off_level s w f below t k p i g h q off j))) (a.leads h l))
      ])
      (λ h l. elim (same_or_not h k) [
        | inl e ↦ subst (λ z. length z ≤ page_numbers) (sym (ap shorter e ∙ shorter_here)) (less page_numbers (subst (λ z. length z ≤ page_numbers) around (subst (λ z. length (chain z) ≤ page_numbers) e (a.few h l))))
        | inr off ↦ subst (λ z. length z ≤ page_numbers) (sym (shorter_else h off)) (a.few h l)
      ])
    where
      joined : (mid : Option ℕ) → Leads (nodes_of s) mid (p ∷ (c ∷ ys)) → Leads after_it mid (p ∷ ys)
      joined mid l = (l.0, subst (λ o. Leads after_it o ys) (ap next_of there ∙ sym r.next ∙ sym (ap next_of now)) (leads_frame (nodes_of s) after_it ys _ (λ q j. ap next_of (others q (middle.late q (inr j)))) l.1.1))

      less : (x : ℕ) → length (xs ++ (p ∷ (c ∷ ys))) ≤ x → length (xs ++ (p ∷ ys)) ≤ x
      less x l = sum _ _ (length-append xs (p ∷ (c ∷ ys))) (length-append xs (p ∷ ys)) l
        where
          sum : (u v : ℕ) → u ≡ length xs + suc (suc (length ys)) → v ≡ length xs + suc (length ys) → u ≤ x → v ≤ x
          sum u v e e' l = omega arith

  above_same : (q : ℕ) → In q (chain (suc k)) → after_it q ≡ nodes_of s q
  above_same q j = others q (off_level s w f below t k p i g (suc k) q next_up j)
    where
      next_up : suc k ≢ k
      next_up e = omega arith

  alike_here : (q : ℕ) → q ≢ p → IsAlike (nodes_of s) after_it (chain (suc k)) (chain (suc k)) q
  alike_here q off = record { first = ap first_weight_of (others q off); other = page_below (nodes_of s) after_it (chain (suc k)) q above_same (others q off) }

  -- the child weighs 3 where it is in no chain any more, and no other does
  kids_here : sum_by (received (xs ++ (p ∷ ys))) (children after_it (chain (suc k))) + 0 ≤ sum_by (received (xs ++ (p ∷ (c ∷ ys)))) (children (nodes_of s) (chain (suc k))) + 3
  kids_here =
      let cut = in_middle f (place t (suc k)) parent.0 parent.2 in
      subst (λ l. sum_by (received (xs ++ (p ∷ ys))) l + 0 ≤ sum_by (received (xs ++ (p ∷ (c ∷ ys)))) (children (nodes_of s) (chain (suc k))) + 3) (sym (children_same (nodes_of s) after_it (chain (suc k)) above_same))
      (subst (λ l. sum_by (received (xs ++ (p ∷ ys))) (children (nodes_of s) l) + 0 ≤ sum_by (received (xs ++ (p ∷ (c ∷ ys)))) (children (nodes_of s) l) + 3) (sym cut.2.is)
      (child_change (nodes_of s) (received (xs ++ (p ∷ (c ∷ ys)))) (received (xs ++ (p ∷ ys))) cut.0 cut.1 parent.0 c 0 3 parent.1 parent.3 parent.4
      (λ a. cut.2.early a.page a.among (one a (subst (λ l. In a.page l) (sym cut.2.is) (In-left cut.0 (parent.0 ∷ cut.1) a.page a.among))))
      (λ a. cut.2.late a.page a.among (one a (subst (λ l. In a.page l) (sym cut.2.is) (In-right cut.0 (parent.0 ∷ cut.1) a.page (inr a.among)))))
      (λ z off. ap received_weight (in_alike z (xs ++ (p ∷ (c ∷ ys))) (xs ++ (p ∷ ys)) (grown z) (shrunk z off))) (three (is_in c (xs ++ (p ∷ ys))) _)))
    where
      one : {zs : List ℕ} (a : IsChildOf (nodes_of s) zs c) → In a.page (chain (suc k)) → a.page ≡ parent.0
      one a j =
          let b = f.child (place t (suc k)) a.page a.node j a.live c a.child in
          one_parent f t k a.page parent.0 c a.node parent.1 b.0 later_pointer.0 j parent.2 a.live parent.3 (later_in a.node.content b.0 c b.1) later_pointer.1

      grown : (z : ℕ) → In z (xs ++ (p ∷ ys)) → In z (xs ++ (p ∷ (c ∷ ys)))
      grown z j = elim (In_cases xs (p ∷ ys) z j) [ inl a ↦ In-left xs _ z a | inr b ↦ In-right xs _ z (elim b [ inl e ↦ inl e | inr e ↦ inr (inr e) ]) ]

      shrunk : (z : ℕ) → z ≢ c → In z (xs ++ (p ∷ (c ∷ ys))) → In z (xs ++ (p ∷ ys))
      shrunk z off j = elim (In_cases xs (p ∷ (c ∷ ys)) z j) [ inl a ↦ In-left xs _ z a | inr b ↦ In-right xs _ z (elim b [ inl e ↦ inl e | inr b' ↦ inr (elim b' [ inl e ↦ absurd (off e) | inr e ↦ e ]) ]) ]

      three : (b : Bool) (x : ℕ) → received_weight b + 0 ≤ x + 3
      three true x = omega arith
      three false x = omega arith

  own : level_weight after_it (chain (suc k)) (xs ++ (p ∷ ys)) + (4 + 0) ≤ level_weight (nodes_of s) (chain (suc k)) (xs ++ (p ∷ (c ∷ ys))) + (0 + 3)
  own = level_change (nodes_of s) after_it (chain (suc k)) (chain (suc k)) xs (c ∷ []) [] ys p 4 0 0 3 (λ q j. alike_here q (middle.early q j)) (λ q j. alike_here q (middle.late q (inr j)))
      (λ u. first _ _ _ (ap first_weight_of now ∙ ap (λ z. z - 10) size) (ap first_weight_of live) c_weighs (receive_lowers_first (count n.content) (count d.content) few))
      (λ u. other (is_in p (children (nodes_of s) (chain (suc k)))) _ _ _ _ _ (ap (λ b. weight_of b (after_it p)) (ap (is_in p) (children_same (nodes_of s) after_it (chain (suc k)) above_same)) ∙ ap (weight_of (is_in p (children (nodes_of s) (chain (suc k))))) now)
      (ap (weight_of (is_in p (children (nodes_of s) (chain (suc k))))) live) (ap pointer_weight (ap (is_in p) (pointed_same (nodes_of s) after_it (chain (suc k)) above_same))) c_weighs (heavier (is_in p (children (nodes_of s) (chain (suc k))))))
      kids_here
    where
      first : (a b x : ℕ) → a ≡ (count n.content + count d.content) - 10 → b ≡ count n.content - 10 → x ≡ count d.content + 4 → ((count n.content + count d.content) - 10) + 3 + 1 ≤ (count n.content - 10) + (count d.content + 4) → a + 0 + 4 ≤ b + (0 + x) + 0
      first a b x e e' e'' l = omega arith

      heavier : (b : Bool) → weight_of b (Some both) + 4 ≤ weight_of b (Some n) + (count d.content + 4)
      heavier false = plain _ _ _ (ap weight size) (receive_lowers (count n.content) (count d.content) few)
        where
          plain : (a b x : ℕ) → x ≡ a → a + 3 + 1 ≤ b + (count d.content + 4) → x + 4 ≤ b + (count d.content + 4)
          plain a b x e l = omega arith
      heavier true = plain _ _ (ap (λ b. child_weight b (count both.content)) (r.merging ∙ awake)) (ap (λ b. child_weight b (count n.content)) awake)
        where
          plain : (a b : ℕ) → a ≡ count both.content + 5 → b ≡ count n.content + 5 → a + 4 ≤ b + (count d.content + 4)
          plain a b e e' = omega (arith, size)

      other : (v : Bool) (a b u u' x : ℕ) → a ≡ weight_of v (Some both) → b ≡ weight_of v (Some n) → u ≡ u' → x ≡ count d.content + 4 → weight_of v (Some both) + 4 ≤ weight_of v (Some n) + (count d.content + 4) → (a + u) + 0 + 4 ≤ (b + u') + (0 + x) + 0
      other v a b u u' x e e' e'' e3 l = omega arith

  kids_same : children after_it (p ∷ []) ≡ children (nodes_of s) (p ∷ (c ∷ []))
  kids_same =
      ap (λ o. merges o ++ []) now ∙ ap (λ o. option_to_list o ++ []) (r.merging_child ∙ free)
      ∙ sym (ap (λ o. merges o ++ (merges (nodes_of s c) ++ [])) live ∙ ap (λ o. option_to_list o ++ (merges (nodes_of s c) ++ [])) free ∙ ap (λ o. merges o ++ []) there ∙ ap (λ o. option_to_list o ++ []) c_free)

  kids_none : (F : ℕ → ℕ) → sum_by F (children after_it (p ∷ [])) + 0 ≤ sum_by F (children (nodes_of s) (p ∷ (c ∷ []))) + 0
  kids_none F = same _ _ (ap (sum_by F) kids_same)
    where
      same : (a b : ℕ) → a ≡ b → a + 0 ≤ b + 0
      same a b e = omega arith

  -- what both led to it leads to
  leads_same : pointed after_it (p ∷ []) ≡ pointed (nodes_of s) (p ∷ (c ∷ []))
  leads_same =
      ap (λ o. led_to o ++ []) now ∙ ap (λ l. ends l ++ []) (halves_pointers both.content n.content d.content r.halves) ∙ ap (λ l. l ++ []) (map-append (λ (e : Key × ℕ). e.1) (pointers n.content) (pointers d.content))
      ∙ append_assoc (ends (pointers n.content)) (ends (pointers d.content)) [] ∙ sym (ap (λ o. led_to o ++ (led_to (nodes_of s c) ++ [])) live ∙ ap (λ o. ends (pointers n.content) ++ (led_to o ++ [])) there)

  lower : (j : ℕ) → j ≢ k → level_weight after_it (xs ++ (p ∷ ys)) (chain j) + 0 ≤ level_weight (nodes_of s) (xs ++ (p ∷ (c ∷ ys))) (chain j) + 0
  lower j off = level_same (nodes_of s) after_it (xs ++ (p ∷ (c ∷ ys))) (xs ++ (p ∷ ys)) (chain j) 0 0
      (λ q h. let same = others q (off_level s w f below t k p i g j q off h) in record {
        first = ap first_weight_of same;
        other = page_same (nodes_of s) after_it (xs ++ (p ∷ (c ∷ ys))) (xs ++ (p ∷ ys)) q same
            (children_middle (nodes_of s) after_it xs (p ∷ (c ∷ [])) (p ∷ []) ys q early late (λ x. subst (λ l. In q l) kids_same x) (λ x. subst (λ l. In q l) (sym kids_same) x))
            (pointed_middle (nodes_of s) after_it xs (p ∷ (c ∷ [])) (p ∷ []) ys q early late (λ x. subst (λ l. In q l) leads_same x) (λ x. subst (λ l. In q l) (sym leads_same) x));
      })
      (children_change (nodes_of s) after_it (received (chain j)) xs (p ∷ (c ∷ [])) (p ∷ []) ys 0 0 early late (kids_none (received (chain j))))
    where
      early : (q : ℕ) → In q xs → after_it q ≡ nodes_of s q
      early q h = others q (middle.early q h)

      late : (q : ℕ) → In q ys → after_it q ≡ nodes_of s q
      late q h = others q (middle.late q (inr h))

  own_here : (h : ℕ) → h ≡ k → level_at after_it shorter h + 1 ≤ level_at (nodes_of s) chain h + 0
  own_here h e = sum _ _ _ _
      (ap (λ z. level_weight after_it z (shorter h)) (ap (λ z. shorter (suc z)) e ∙ shorter_else (suc k) up) ∙ ap (level_weight after_it (chain (suc k))) (ap shorter e ∙ shorter_here))
      (ap (λ z. level_weight (nodes_of s) (chain (suc z)) (chain z)) e ∙ ap (level_weight (nodes_of s) (chain (suc k))) around) own
    where
      up : suc k ≢ k
      up e = omega arith

      sum : (a b x y : ℕ) → a ≡ x → b ≡ y → x + (4 + 0) ≤ y + (0 + 3) → a + 1 ≤ b + 0
      sum a b x y e e' l = omega arith

  lower_here : (j : ℕ) → suc j ≡ k → level_at after_it shorter j + 0 ≤ level_at (nodes_of s) chain j + 0
  lower_here j e = sum _ _ _ _
      (ap (λ z. level_weight after_it z (shorter j)) (ap shorter e ∙ shorter_here) ∙ ap (level_weight after_it (xs ++ (p ∷ ys))) (shorter_else j off))
      (ap (λ z. level_weight (nodes_of s) z (chain j)) (ap chain e ∙ around)) (lower j off)
    where
      off : j ≢ k
      off u = omega arith

      sum : (a b x y : ℕ) → a ≡ x → b ≡ y → x + 0 ≤ y + 0 → a + 0 ≤ b + 0
      sum a b x y e e' l = omega arith

  both_levels : (h : ℕ) → h ≡ k → levels_at after_it shorter h + 1 ≤ levels_at (nodes_of s) chain h + 0
  both_levels zero e = own_here zero e
  both_levels (suc j) e = sum _ _ _ _ (own_here (suc j) e) (lower_here j e)
    where
      sum : (a b x y : ℕ) → a + 1 ≤ x + 0 → b + 0 ≤ y + 0 → (a + b) + 1 ≤ (x + y) + 0
      sum a b x y u v = omega arith

  pub received_child : Lowers s (after (PageBecomes p (Some g)) s) t 1
  received_child =
      let a = shape_of s w f below t root rooted in
      record {
        here = no_more _ _ (here_changes s w f below t k p i g root a.0 1 0 shorter rooted a.1 (shape a.0 a.1) shorter_else (both_levels k refl));
        pages = here_counts s w f below t k p i g root a.0 shorter rooted a.1 (shape a.0 a.1) shorter_else (one_page _ _ (ap length shorter_here ∙ length-append xs (p ∷ ys)) (ap length around ∙ length-append xs (p ∷ (c ∷ ys))));
        others = others_stay s w f below t k p i g;
      }
    where
      one_page : (x y : ℕ) → x ≡ length xs + suc (length ys) → y ≡ length xs + suc (suc (length ys)) → x ≤ y + 1
      one_page x y e e' = omega arith

pub receiving_lowers : ReceiveLowers
receiving_lowers m w t number a node version is named k page =
    let h : ℕ = k.height in
    let c : ℕ = a.merge.child in
    let p : ℕ = a.left.pid in
    let n : Node = a.left.node in
    let d : Node = a.node in
    let f = is.formed in
    let node_is : node ≡ n = k.seen.view.speaks (record { version = a.left.version; node = node }) page refl in
    let live : nodes_at m p ≡ Some n = ap (option_map (λ (z : Page). z.node)) page ∙ ap Some node_is in
    let i = (now_law m w (place t h) number n.lo p k.seen.stood named n live k.seen.is_open.not_merging).0 in
    let there = receives_from is (place t h) c p a.version n d i live k.next k.frozen in
    let up : Below n.lo n.hi = rises_at f (place t h) p c n i live k.next in
    let meets : n.hi ≡ d.lo = elim (behind f (place t h) p n i live) [
      | inl none ↦ absurd (not_below_empty n.lo (subst (λ l. Below n.lo l) none up))
      | inr z ↦ sym z.4 ∙ ap (λ (y : Node). y.lo) (some_is (sym z.3 ∙ ap (nodes_at m) (some_is (sym z.5 ∙ k.next)) ∙ there.1))
    ] in
    let r = (joined_law n d).joined h (sound_at f (place t h) p n i live) (sound_at f (place t h) c d there.0 there.1) meets k.before (covers_itself f (place t h) c d there.0 there.1).1 in
    let around = followed f (place t h) p c n i live k.next in
    let off = apart around.0 (c ∷ around.1) p (subst Different around.2 (run_different (nodes_at m) (w.chain (place t h)) _ _ _ _ (chain_run f (place t h) p i))) in
    let root = is.rooted t number named in
    received_child m.state w f is.below t h p c i n d (after_receiving n d) version root.0 live there.1 k.next k.seen.is_open.not_merging k.seen.is_open.free k.frozen.capped k.fits.fits r around.0 around.1 around.2
    (record { is = around.2; early = off.0; late = off.1 }) root.1
