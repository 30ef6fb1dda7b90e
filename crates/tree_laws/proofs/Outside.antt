-- A change of pages that have no place.
use Rattle.std.proofs.Common.{flat_map, ◌≡◌, ℕ, suc, false, le_of_eq, List, [], ◌∷◌, Option, Some, None, sym, refl, ap, ◌∙◌, subst, inl, inr, ◌⊎◌}
use Rattle.sled_store.specs.In.{In}
use Rattle.sled_nodes.specs.Node.{count}
use Rattle.sled_nodes.specs.Order.{Key}
use Rattle.sled_store.specs.State.{Nodes}
use Rattle.sled_nodes.specs.declared.node.Node.{Node}
use Rattle.tree_laws.specs.Forest.{IsSized, Forest, Place, place, IsHomed, IsPointer, WellFormed, contents, node_pairs, head, Tree}
use Rattle.tree_laws.proofs.Cover.{child_below}
use Rattle.tree_laws.specs.Snapshot.{IsOrphan}
use Rattle.tree_laws.specs.theory.Snapshot.{GrowsByReceiving, KeepsNodes}
use Rattle.tree_laws.proofs.Runs.{run_frame}
use Rattle.tree_laws.proofs.Replace.{not_both}

one : {n m : Node} → Some n ≡ Some m → n ≡ m
one e = cc

module _ (nodes new : Nodes) (roots : Tree → Option ℕ) (w : Forest) (same : (p : ℕ) (x : Place) → w.home p ≡ Some x → new p ≡ nodes p) (f : WellFormed nodes roots w) where
  chained : (x : Place) (p : ℕ) → In p (w.chain x) → new p ≡ nodes p
  chained x p h = same p x (f.homed x p h)

  homed_on : (p : ℕ) (x : Place) (n : Node) → w.home p ≡ Some x → IsHomed nodes w p x n → IsHomed new w p x n
  homed_on p x n e i = record {
    live = same p x e ∙ i.live;
    sound = i.sound;
    stands = i.stands;
    calm = i.calm;
    parent = λ m. let q = i.parent m in (q.0, q.1, q.2, chained (place x.tree (suc x.height)) q.0 q.2 ∙ q.3, q.4);
  }

  pointer_on : (n : Node) (t : Tree) (h : ℕ) (k : Key) (c : ℕ) → IsPointer nodes w n t h k c → IsPointer new w n t h k c
  pointer_on n t h k c i = record { node = i.node; live = same c (place t h) i.homed ∙ i.live; homed = i.homed; key = i.key; merged = i.merged }

  pub outside_kept : WellFormed new roots w
  outside_kept = record {
    homed = f.homed;
    page = λ x p e. let i = f.page x p e in (i.0, homed_on p x i.0 e i.1);
    run = λ x. elim (f.run x) [ inl e ↦ inl e | inr r ↦ inr (run_frame nodes new (w.chain x) _ _ _ _ (chained x) r) ];
    pointer = λ t h p n i e k c j. pointer_on n t h k c (f.pointer t h p n i (sym (chained _ p i) ∙ e) k c j);
    child = λ x p n i e c m. f.child x p n i (sym (chained x p i) ∙ e) c m;
    down = λ t h p n i e. f.down t h p n i (sym (chained _ p (head_in _ p i)) ∙ e);
    top = f.top;
  }
    where
      head_in : (ps : List ℕ) (p : ℕ) → head ps ≡ Some p → In p ps
      head_in [] p e = cc
      head_in (q ∷ ps) p e = inl (cc)

  pairs_on : (ps : List ℕ) → ((p : ℕ) → In p ps → new p ≡ nodes p) → flat_map (λ p. node_pairs (new p)) ps ≡ flat_map (λ p. node_pairs (nodes p)) ps
  pairs_on [] h = refl
  pairs_on (p ∷ ps) h = let a = h p (inl refl) in let b = pairs_on ps (λ q i. h q (inr i)) in cc (ap node_pairs a)

  pub outside_contents : (t : Tree) → contents new w t ≡ contents nodes w t
  outside_contents t = pairs_on (w.chain (place t 0)) (chained (place t 0))

  -- each page that changes is one of the caller's own, and no live merging page becomes another
  pub outside_keeps : (mine : List ℕ) (lost : Option Tree) → ((p : ℕ) → IsOrphan w p → ¬ (In p mine) → new p ≡ nodes p) → ((p : ℕ) (n : Node) → nodes p ≡ Some n → (new p ≡ Some n) ⊎ (new p ≡ None)) → KeepsNodes mine lost nodes new w w
  outside_keeps mine lost own keep = record {
    stood = λ x p n o i live. (n, chained x p i ∙ live, refl, inl i);
    capped = λ p n live t. keep p n live;
    stray = λ p s o. (own p s o, s);
    left = λ x p n live t o. o;
    wakes = λ x p n m i was not_merging now t. not_both m.merging (subst (λ (z : Node). z.merging ≡ false) (one (sym was ∙ sym (chained x p i) ∙ now)) not_merging) t;
    child = λ x p c n o i was is. inl (i, (n, chained x p i ∙ was, is));
  }

  pub outside_sized : IsSized nodes w → IsSized new w
  outside_sized z = record {
    fits = λ x p n h live. z.fits x p n h (sym (same p x h) ∙ live);
    child = λ x p c n d i live is there.
        let was : nodes p ≡ Some n = sym (chained x p i) ∙ live in
        let u = child_below f x p n c i was is in
        z.child x p c n d i was is (sym (same c _ u.4.homed) ∙ there);
  }

  pub outside_grows : GrowsByReceiving nodes new w
  outside_grows = record { grows = λ x p n m i was now. inl (le_of_eq (ap (λ (z : Node). count z.content) (one (sym now ∙ chained x p i ∙ was)))) }
