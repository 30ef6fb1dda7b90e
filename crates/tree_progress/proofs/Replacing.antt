-- One page of a tree is replaced by another that leads on and down as it did: what its level weighs, and the level below it.
use Rattle.std.proofs.Common.{◌≡◌, ◌≢◌, ℕ, suc, ◌+◌, ◌≤◌, ◌<◌, ◌^◌, Bool, sum_by, List, [], ◌∷◌, ◌++◌, Option, Some, sym, refl, ap, ◌∙◌, subst, inr, arith, append-nil}
use Rattle.sled_store.specs.In.{In}
use Rattle.sled_store.specs.State.{State, Nodes, nodes_of}
use Rattle.sled_nodes.specs.declared.node.Node.{Node}
use Rattle.sled_store.specs.declared.page.Page.{Page}
use Rattle.tree_laws.specs.Forest.{Tree, Forest, Place, place, head, WellFormed}
use Rattle.tree_laws.specs.theory.Drops.{Different}
use Rattle.tree_laws.proofs.Cover.{chain_run}
use Rattle.tree_laws.proofs.Fuel.{run_different}
use Rattle.tree_laws.proofs.Runs.{In_split, In-left, In-right}
use Rattle.tree_progress.specs.Weights.{pointer_weight}
use Rattle.tree_progress.specs.ToDo.{is_in, led_to, merges, pointed, children, weight_of, first_weight_of, page_weight, level_weight}
use Rattle.tree_progress.proofs.Levels.{IsAlike, received, level_change, level_same, children_same, pointed_same, children_change, page_same, page_below}
use Rattle.tree_progress.proofs.Shapes.{level_at}
use Rattle.tree_progress.proofs.Changing.{new, now_is, others_are, off_level}
use Rattle.tree_progress.proofs.Pointing.{apart, pointed_alike, children_alike}

-- what is found alike of two pages
pub record LeadsAlike (n m : Option Node) (q : ℕ) : Type 0 where
  pub led_was : In q (led_to m) → In q (led_to n)
  pub led_now : In q (led_to n) → In q (led_to m)
  pub child_was : In q (merges m) → In q (merges n)
  pub child_now : In q (merges n) → In q (merges m)

-- a page of a chain, with those before it and behind it, which are others
pub record IsMiddle (chain xs ys : List ℕ) (p : ℕ) : Type 0 where
  pub is : chain ≡ xs ++ (p ∷ ys)
  pub early : (q : ℕ) → In q xs → q ≢ p
  pub late : (q : ℕ) → In q ys → q ≢ p

pub in_middle : {nodes : Nodes} {roots : Tree → Option ℕ} {w : Forest} (f : WellFormed nodes roots w) (x : Place) (p : ℕ) → In p (w.chain x) → (xs : List ℕ) × (ys : List ℕ) × IsMiddle (w.chain x) xs ys p
in_middle {nodes} {roots} {w} f x p i =
    let cut = In_split (w.chain x) p i in
    let d = apart cut.0 cut.1 p (subst Different cut.2 (run_different nodes (w.chain x) _ _ _ _ (chain_run f x p i))) in
    (cut.0, cut.1, record { is = cut.2; early = d.0; late = d.1 })

module _ (s : State) (w : Forest) (f : WellFormed (nodes_of s) s.roots w) (below : (p : ℕ) (g : Page) → s.pages p ≡ Some g → p < 2 ^ 64) (t : Tree) (k p : ℕ) (i : In p (w.chain (place t k))) (g : Page) where
  abbrev after_it : Nodes
  after_it = nodes_of (new s w f below t k p i g)

  abbrev chain : ℕ → List ℕ
  chain h = w.chain (place t h)

  now : after_it p ≡ Some g.node
  now = now_is s w f below t k p i g

  others : (q : ℕ) → q ≢ p → after_it q ≡ nodes_of s q
  others = others_are s w f below t k p i g

  up : (q : ℕ) → In q (chain (suc k)) → after_it q ≡ nodes_of s q
  up q j = others q (off_level s w f below t k p i g (suc k) q next_up j)
    where
      next_up : suc k ≢ k
      next_up e = omega arith

  -- the weight of its level
  pub own_level : (n : Node) (d e : ℕ) → nodes_of s p ≡ Some n → (head (chain k) ≡ Some p → first_weight_of (Some g.node) + d ≤ first_weight_of (Some n) + e)
      → ((b : Bool) → is_in p (children (nodes_of s) (chain (suc k))) ≡ b → weight_of b (Some g.node) + d ≤ weight_of b (Some n) + e)
      → level_at after_it chain k + d ≤ level_at (nodes_of s) chain k + e
  own_level n d e live one more =
      let cut = in_middle f (place t k) p i in
      whole cut.0 cut.1 cut.2
    where
      alike : (q : ℕ) → q ≢ p → IsAlike (nodes_of s) after_it (chain (suc k)) (chain (suc k)) q
      alike q off = record { first = ap first_weight_of (others q off); other = page_below (nodes_of s) after_it (chain (suc k)) q up (others q off) }

      first : (xs ys : List ℕ) → chain k ≡ xs ++ (p ∷ ys) → xs ≡ [] → first_weight_of (after_it p) + 0 + d ≤ first_weight_of (nodes_of s p) + 0 + e
      first xs ys is z = sum _ _ _ _ (ap first_weight_of now) (ap first_weight_of live) (one (ap head is ∙ ap (λ l. head (l ++ (p ∷ ys))) z))
        where
          sum : (a b x y : ℕ) → a ≡ x → b ≡ y → x + d ≤ y + e → a + 0 + d ≤ b + 0 + e
          sum a b x y u v l = omega arith

      other : page_weight after_it (chain (suc k)) p + 0 + d ≤ page_weight (nodes_of s) (chain (suc k)) p + 0 + e
      other =
          let kids = ap (is_in p) (children_same (nodes_of s) after_it (chain (suc k)) up) in
          let leads = ap (is_in p) (pointed_same (nodes_of s) after_it (chain (suc k)) up) in
          let b : Bool = is_in p (children (nodes_of s) (chain (suc k))) in
          sum _ _ _ _ _ _ (ap (λ z. weight_of z (after_it p)) kids ∙ ap (weight_of b) now) (ap (weight_of b) live) (ap pointer_weight leads) (more b refl)
        where
          sum : (a b x y u v : ℕ) → a ≡ x → b ≡ y → u ≡ v → x + d ≤ y + e → a + u + 0 + d ≤ b + v + 0 + e
          sum a b x y u v a' b' c l = omega arith

      whole : (xs ys : List ℕ) → IsMiddle (chain k) xs ys p → level_at after_it chain k + d ≤ level_at (nodes_of s) chain k + e
      whole xs ys z =
          let kids : sum_by (received (xs ++ (p ∷ ys))) (children after_it (chain (suc k))) ≡ sum_by (received (xs ++ (p ∷ ys))) (children (nodes_of s) (chain (suc k))) = ap (sum_by (received (xs ++ (p ∷ ys)))) (children_same (nodes_of s) after_it (chain (suc k)) up) in
          let a = level_change (nodes_of s) after_it (chain (suc k)) (chain (suc k)) xs [] [] ys p d e 0 0 (λ q j. alike q (z.early q j)) (λ q j. alike q (z.late q j)) (first xs ys z.is) (λ u. other) (same _ _ kids) in
          plain _ _ _ _ (ap (level_weight after_it (chain (suc k))) z.is) (ap (level_weight (nodes_of s) (chain (suc k))) z.is) a
        where
          same : (a b : ℕ) → a ≡ b → a + 0 ≤ b + 0
          same a b u = omega arith

          plain : (a b x y : ℕ) → a ≡ x → b ≡ y → x + (d + 0) ≤ y + (e + 0) → a + d ≤ b + e
          plain a b x y u v l = omega arith

module _ (s : State) (w : Forest) (f : WellFormed (nodes_of s) s.roots w) (below : (p : ℕ) (g : Page) → s.pages p ≡ Some g → p < 2 ^ 64) (t : Tree) (j p : ℕ) (i : In p (w.chain (place t (suc j)))) (g : Page) (n : Node) (live : nodes_of s p ≡ Some n) where
  abbrev after_up : Nodes
  after_up = nodes_of (new s w f below t (suc j) p i g)

  abbrev level : ℕ → List ℕ
  level h = w.chain (place t h)

  pub up_now : after_up p ≡ Some g.node
  up_now = now_is s w f below t (suc j) p i g

  up_others : (q : ℕ) → q ≢ p → after_up q ≡ nodes_of s q
  up_others = others_are s w f below t (suc j) p i g

  pub lower_off : (q : ℕ) → In q (level j) → after_up q ≡ nodes_of s q
  lower_off q h = up_others q (off_level s w f below t (suc j) p i g j q under h)
    where
      under : j ≢ suc j
      under e = omega arith

  pub kids_alike : (q : ℕ) → (In q (merges (Some g.node)) → In q (merges (Some n))) → (In q (merges (Some n)) → In q (merges (Some g.node))) → is_in q (children after_up (level (suc j))) ≡ is_in q (children (nodes_of s) (level (suc j)))
  kids_alike q was is = children_alike (nodes_of s) after_up (level (suc j)) p q up_others
      (subst (λ o. In q (merges o) → In q (merges (nodes_of s p))) (sym up_now) (subst (λ o. In q (merges (Some g.node)) → In q (merges o)) (sym live) was))
      (subst (λ o. In q (merges (nodes_of s p)) → In q (merges o)) (sym up_now) (subst (λ o. In q (merges o) → In q (merges (Some g.node))) (sym live) is))

  pub leads_alike : (q : ℕ) → (In q (led_to (Some g.node)) → In q (led_to (Some n))) → (In q (led_to (Some n)) → In q (led_to (Some g.node))) → is_in q (pointed after_up (level (suc j))) ≡ is_in q (pointed (nodes_of s) (level (suc j)))
  leads_alike q was is = pointed_alike (nodes_of s) after_up (level (suc j)) p q up_others
      (subst (λ o. In q (led_to o) → In q (led_to (nodes_of s p))) (sym up_now) (subst (λ o. In q (led_to (Some g.node)) → In q (led_to o)) (sym live) was))
      (subst (λ o. In q (led_to (nodes_of s p)) → In q (led_to o)) (sym up_now) (subst (λ o. In q (led_to o) → In q (led_to (Some g.node))) (sym live) is))

  lower_alike : (q : ℕ) → In q (level j) → LeadsAlike (Some n) (Some g.node) q → IsAlike (nodes_of s) after_up (level (suc j)) (level (suc j)) q
  lower_alike q h a = record { first = ap first_weight_of (lower_off q h); other = page_same (nodes_of s) after_up (level (suc j)) (level (suc j)) q (lower_off q h) (kids_alike q a.child_was a.child_now) (leads_alike q a.led_was a.led_now) }

  -- what its merging child and those of its level weigh
  lower_kids : (F : ℕ → ℕ) (r v : ℕ) → sum_by F (merges (Some g.node)) + r ≤ sum_by F (merges (Some n)) + v → sum_by F (children after_up (level (suc j))) + r ≤ sum_by F (children (nodes_of s) (level (suc j))) + v
  lower_kids F r v l =
      let cut = in_middle f (place t (suc j)) p i in
      whole cut.0 cut.1 cut.2
    where
      alone : (nodes : Nodes) (o : Option Node) → nodes p ≡ o → children nodes (p ∷ []) ≡ merges o
      alone nodes o e = append-nil (merges (nodes p)) ∙ ap merges e

      whole : (xs ys : List ℕ) → IsMiddle (level (suc j)) xs ys p → sum_by F (children after_up (level (suc j))) + r ≤ sum_by F (children (nodes_of s) (level (suc j))) + v
      whole xs ys z =
          let a = children_change (nodes_of s) after_up F xs (p ∷ []) (p ∷ []) ys r v (λ q h. up_others q (z.early q h)) (λ q h. up_others q (z.late q h))
          (middle _ _ _ _ (ap (sum_by F) (alone after_up (Some g.node) up_now)) (ap (sum_by F) (alone (nodes_of s) (Some n) live)) l) in
          subst (λ c. sum_by F (children after_up c) + r ≤ sum_by F (children (nodes_of s) c) + v) (sym z.is) a
        where
          middle : (a b x y : ℕ) → a ≡ x → b ≡ y → x + r ≤ y + v → a + r ≤ b + v
          middle a b x y c d u = omega arith

  -- the weight of the level below it, where all its pages are found alike,
  pub lower_level : (r v : ℕ) → ((q : ℕ) → In q (level j) → LeadsAlike (Some n) (Some g.node) q) → sum_by (received (level j)) (merges (Some g.node)) + r ≤ sum_by (received (level j)) (merges (Some n)) + v
      → level_at after_up level j + r ≤ level_at (nodes_of s) level j + v
  lower_level r v alike kids = level_same (nodes_of s) after_up (level (suc j)) (level (suc j)) (level j) r v (λ q h. lower_alike q h (alike q h)) (lower_kids (received (level j)) r v kids)

  -- .. or all but one, which is not the first
  pub lower_one : (c d e r v : ℕ) → In c (level j) → head (level j) ≢ Some c → ((q : ℕ) → In q (level j) → q ≢ c → LeadsAlike (Some n) (Some g.node) q)
      → page_weight after_up (level (suc j)) c + d ≤ page_weight (nodes_of s) (level (suc j)) c + e
      → sum_by (received (level j)) (merges (Some g.node)) + r ≤ sum_by (received (level j)) (merges (Some n)) + v
      → level_at after_up level j + (d + r) ≤ level_at (nodes_of s) level j + (e + v)
  lower_one c d e r v here not_first alike at kids =
      let cut = in_middle f (place t j) c here in
      whole cut.0 cut.1 cut.2
    where
      whole : (xs ys : List ℕ) → IsMiddle (level j) xs ys c → level_at after_up level j + (d + r) ≤ level_at (nodes_of s) level j + (e + v)
      whole xs ys z =
          let chain_in : (q : ℕ) → In q (xs ++ (c ∷ ys)) → In q (level j) = λ q h. subst (λ l. In q l) (sym z.is) h in
          let a = level_change (nodes_of s) after_up (level (suc j)) (level (suc j)) xs [] [] ys c d e r v
          (λ q h. let b = chain_in q (In-left xs (c ∷ ys) q h) in lower_alike q b (alike q b (z.early q h)))
          (λ q h. let b = chain_in q (In-right xs (c ∷ ys) q (inr h)) in lower_alike q b (alike q b (z.late q h)))
          (λ u. absurd (not_first (ap head z.is ∙ ap (λ l. head (l ++ (c ∷ ys))) u)))
          (λ u. plain _ _ at)
          (subst (λ l. sum_by (received l) (children after_up (level (suc j))) + r ≤ sum_by (received l) (children (nodes_of s) (level (suc j))) + v) z.is (lower_kids (received (level j)) r v kids)) in
          subst (λ l. level_weight after_up (level (suc j)) l + (d + r) ≤ level_weight (nodes_of s) (level (suc j)) l + (e + v)) (sym z.is) a
        where
          plain : (a b : ℕ) → a + d ≤ b + e → a + 0 + d ≤ b + 0 + e
          plain a b l = omega arith
