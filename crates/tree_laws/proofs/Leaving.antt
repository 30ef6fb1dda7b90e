-- The pages of a dropped tree are freed, level by level along `next`.
use Rattle.std.proofs.Common.{◌≡◌, ◌≢◌, ℕ, List, [], ◌∷◌, Option, Some, None, sym, refl, ap, ◌∙◌, subst, inl, inr}
use Rattle.sled_nodes.proofs.Basics.{none_some, some_is}
use Rattle.sled_store.specs.In.{In}
use Rattle.sled_nodes.specs.Order.{Key}
use Rattle.sled_store.specs.State.{Nodes}
use Rattle.sled_store.specs.theory.Facts.{put_elsewhere}
use Rattle.sled_nodes.specs.declared.node.Node.{Node}
use Rattle.tree_laws.specs.Forest.{Tree, Forest, Place, place, head, Run}
use Rattle.tree_laws.specs.Snapshot.{Snapshot, nodes_at, IsOrphan}
use Rattle.tree_laws.specs.theory.Drops.{Leads, Different, IsLeft}
use Rattle.tree_laws.specs.theory.Laws.{StepsForest, LeftLaw, FreesLeftLaw, after_free}
use Rattle.tree_laws.proofs.Fuel.{run_different}
use Rattle.tree_laws.proofs.States.{free_law, nodes_freed}

run_leads : (nodes : Nodes) (ps : List ℕ) (from : Option ℕ) (lo hi : Key) → Run nodes ps from lo None hi → Leads nodes from ps
run_leads nodes [] from lo hi r = r.0
run_leads nodes (p ∷ ps) from lo hi r = (r.1.here, r.0, r.1.live, run_leads nodes ps r.0.next r.0.hi hi r.2)

leads_frame : (nodes new : Nodes) (ps : List ℕ) (from : Option ℕ) → ((p : ℕ) → In p ps → new p ≡ nodes p) → Leads nodes from ps → Leads new from ps
leads_frame nodes new [] from same l = l
leads_frame nodes new (p ∷ ps) from same l = (l.0, l.1, same p (inl refl) ∙ l.2, leads_frame nodes new ps l.1.next (λ q i. same q (inr i)) l.3)

-- what is left of a level, right after the drop: the whole chain
pub left_law : LeftLaw
left_law m w t is u stray h = record {
  leads = elim (is.formed.run (place t h)) [
    | inl e ↦ subst (λ c. Leads (nodes_at m) (head c) c) (sym e) refl
    | inr r ↦ run_leads (nodes_at m) (w.chain (place t h)) _ _ _ r
  ];
  different = elim (is.formed.run (place t h)) [
    | inl e ↦ subst (λ c. Different c) (sym e) tt
    | inr r ↦ run_different (nodes_at m) (w.chain (place t h)) _ _ _ _ r
  ];
  stray = λ p i. stray p h (is.formed.homed (place t h) p i);
  had = λ p i. is.formed.homed (place t h) p i;
}

-- no page that is left is another call's own
pub left_off : {m : Snapshot} {w was : Forest} {t : Tree} {h : ℕ} {from : Option ℕ} {left : List ℕ} → IsLeft m w was t h from left → (q : ℕ) → IsOrphan was q → ¬ (In q left)
left_off {t} {h} k q stray i = stray (place t h) (k.had q i)

-- a page that is freed leaves the others of a list that it is not in
frees_other : {m : Snapshot} {w was : Forest} {t : Tree} {h : ℕ} {from : Option ℕ} {left : List ℕ} (p : ℕ) → ((q : ℕ) → In q left → q ≢ p) → IsLeft m w was t h from left → IsLeft (after_free m p) w was t h from left
frees_other {m} p off k = record {
  leads = leads_frame (nodes_at m) (nodes_at (after_free m p)) _ _ (λ q i. ap (λ z. z q) (nodes_freed m p) ∙ put_elsewhere (nodes_at m) p q None (off q i)) k.leads;
  different = k.different;
  stray = k.stray;
  had = k.had;
}

-- a page of another level, or of what was left before
pub frees_level : {m : Snapshot} {w was : Forest} {t : Tree} {h : ℕ} {from : Option ℕ} {left : List ℕ} (p g : ℕ) → was.home p ≡ Some (place t g) → g ≢ h → IsLeft m w was t h from left → IsLeft (after_free m p) w was t h from left
frees_level {was} {t} {h} p g home off k = frees_other p (λ q i e. off (sym (ap (λ (z : Place). z.height) (some_is (sym (k.had q i) ∙ ap was.home e ∙ home))))) k

-- the first page that is left is freed, and the rest of the level is left
pub frees_left_law : FreesLeftLaw
frees_left_law m w was t h p left n is live k = go left k
  where
    go : (left : List ℕ) → IsLeft m w was t h (Some p) left → (rest : List ℕ) × (left ≡ p ∷ rest) × StepsForest (p ∷ []) None m w (after_free m p) w × IsLeft (after_free m p) w was t h n.next rest
    go [] k = none_some (sym k.leads)
    go (q ∷ rest) k =
        let e : q ≡ p = sym (some_is k.leads.0) in
        let node : k.leads.1 ≡ n = some_is (sym k.leads.2 ∙ ap (nodes_at m) e ∙ live) in
        let stray : IsOrphan w p = subst (λ z. IsOrphan w z) e (k.stray q (inl refl)) in
        let after : IsLeft m w was t h n.next rest = record {
          leads = subst (λ (z : Node). Leads (nodes_at m) z.next rest) node k.leads.3;
          different = k.different.1;
          stray = λ z i. k.stray z (inr i);
          had = λ z i. k.had z (inr i);
        } in
        (rest, ap (λ z. z ∷ rest) e, (free_law m w p is stray).0, frees_other p (λ z i a. k.different.0 z i (a ∙ sym e)) after)
