-- The size, where one page of a chain is replaced.
use Rattle.std.proofs.Common.{◌≡◌, ◌≢◌, ℕ, suc, ◌≤◌, le_of_eq, List, Option, Some, sym, ap, ◌∙◌, subst, inl, inr, ◌⊎◌}
use Rattle.sled_nodes.proofs.Basics.{none_some, some_is, same_or_not}
use Rattle.sled_store.specs.In.{In}
use Rattle.sled_nodes.specs.Node.{count}
use Rattle.sled_store.specs.State.{Nodes}
use Rattle.sled_nodes.specs.declared.node.Node.{Node}
use Rattle.tree_laws.specs.Forest.{Tree, Forest, Place, place, WellFormed, IsSized}
use Rattle.tree_laws.specs.theory.Snapshot.{GrowsByReceiving}
use Rattle.tree_laws.proofs.Replace.{Replaces, p_home, chained_before}
use Rattle.tree_laws.proofs.Cover.{child_below}

pub record IsSmall (nodes : Nodes) (w : Forest) (x : Place) (p : ℕ) (n m : Node) (added : List ℕ) : Type 0 where
  pub fits : count m.content ≤ 33
  pub added_few : (q : ℕ) (d : Node) → In q added → nodes q ≡ Some d → count d.content ≤ 33
  pub child : (q : ℕ) (d : Node) → In q (w.chain (place x.tree (suc x.height))) → nodes q ≡ Some d → d.merging_child ≡ Some p → count m.content ≤ 17

module _ {nodes new : Nodes} {roots : Tree → Option ℕ} {w v : Forest} {x : Place} {p : ℕ} {n m : Node} {xs gone added ys : List ℕ} (r : Replaces nodes new w v x p n m xs gone added ys) (f : WellFormed nodes roots w) where
  -- who has a merging child now had it
  had_child : (y : Place) (q c : ℕ) (d : Node) → In q (v.chain y) → new q ≡ Some d → d.merging_child ≡ Some c → In q (w.chain y) × ((b : Node) × (nodes q ≡ Some b) × (b.merging_child ≡ Some c))
  had_child y q c d i live is = elim (chained_before r f y q i) [
    | inl a ↦ (
      a,
      elim (same_or_not q p) [
        | inl e ↦ (n, ap nodes e ∙ r.was, sym r.merging_child ∙ ap (λ (z : Node). z.merging_child) (some_is (sym r.now ∙ ap new (sym e) ∙ live)) ∙ is)
        | inr e ↦ (d, sym (r.others q e) ∙ live, is)
      ],
    )
    | inr b ↦
        let a = r.adds q b.0 in
        let off : q ≢ p = λ e. a.was x (ap w.home e ∙ p_home r f) in
        let e : d ≡ a.node = some_is (sym live ∙ r.others q off ∙ a.live) in
        none_some (sym a.child ∙ ap (λ (z : Node). z.merging_child) (sym e) ∙ is)
  ]

  pub replaced_sized : IsSmall nodes w x p n m added → IsSized nodes w → IsSized new v
  replaced_sized s z = record {
    fits = λ y q d h live. elim (same_or_not q p) [
      | inl e ↦ subst (λ (k : Node). count k.content ≤ 33) (some_is (sym r.now ∙ ap new (sym e) ∙ live)) s.fits
      | inr e ↦
          let was : nodes q ≡ Some d = sym (r.others q e) ∙ live in
          elim (r.comes q y h) [ inl a ↦ z.fits y q d a was | inr b ↦ s.added_few q d b.0 was ]
    ];
    child = λ y q c d e i live is there.
        let b = had_child y q c d i live is in
        elim (same_or_not c p) [
          | inl g ↦
              let u = child_below f y q b.1.0 c b.0 b.1.1 b.1.2 in
              let here : place y.tree u.0 ≡ x = some_is (sym u.4.homed ∙ ap w.home g ∙ p_home r f) in
              let up : In q (w.chain (place x.tree (suc x.height))) = subst (λ (k : Place). In q (w.chain (place k.tree (suc k.height)))) here (subst (λ k. In q (w.chain k)) u.1 b.0) in
              subst (λ (k : Node). count k.content ≤ 17) (some_is (sym r.now ∙ ap new (sym g) ∙ there)) (s.child q b.1.0 up b.1.1 (b.1.2 ∙ ap Some g))
          | inr g ↦ z.child y q c b.1.0 e b.0 b.1.1 b.1.2 (sym (r.others c g) ∙ there)
        ];
  }

  pub replaced_grows : (count m.content ≤ count n.content) ⊎ ((count m.content ≤ 17) ⊎ ((c : ℕ) × (n.next ≡ Some c) × In c gone)) → GrowsByReceiving nodes new w
  replaced_grows size = record {
    grows = λ y q d e i was now. elim (same_or_not q p) [
      | inl g ↦
          let dn : n ≡ d = some_is (sym r.was ∙ ap nodes (sym g) ∙ was) in
          let em : m ≡ e = some_is (sym r.now ∙ ap new (sym g) ∙ now) in
          elim size [
            | inl a ↦ inl (subst (λ (z : Node). count z.content ≤ count d.content) em (subst (λ (z : Node). count m.content ≤ count z.content) dn a))
            | inr a' ↦ inr (elim a' [
              | inl a ↦ inl (subst (λ (z : Node). count z.content ≤ 17) em a)
              | inr a ↦ let b = r.goes a.0 a.2 in inr (a.0, b.0, subst (λ (z : Node). z.next ≡ Some a.0) dn a.1, b.1, b.2)
            ])
          ]
      | inr g ↦ inl (le_of_eq (ap (λ (z : Node). count z.content) (some_is (sym now ∙ r.others q g ∙ was))))
    ];
  }
