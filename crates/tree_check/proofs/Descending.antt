-- One level more of a tree.
use Rattle.std.proofs.Common.{◌≡◌, ℕ, suc, ◌≤◌, Bool, true, false, cond, nat_eq, List, [], Option, Some, None, sym, refl, ap, ◌∙◌, subst, inl, inr, ◌⊎◌, arith}
use Rattle.std.proofs.lemmas.Bool.Decides.{nat_tests}
use Rattle.sled_store.specs.In.{In}
use Rattle.sled_nodes.specs.Node.{pointers}
use Rattle.sled_nodes.specs.Order.{Key}
use Rattle.sled_store.specs.State.{Nodes}
use Rattle.sled_nodes.specs.declared.node.Node.{Node}
use Rattle.tree_laws.specs.Forest.{head, first_child, Run}
use Rattle.tree_check.specs.theory.Tree.{IsPointerTo, IsAtHeight, IsTreeFrom, IsTop}

-- these chains, and this one at the height h
abbrev pub with_level : (ℕ → List ℕ) → ℕ → List ℕ → ℕ → List ℕ
with_level chain h ps g = cond (nat_eq g h) ps (chain g)

pub level_here : (chain : ℕ → List ℕ) (h : ℕ) (ps : List ℕ) → with_level chain h ps h ≡ ps
level_here chain h ps = go (nat_eq h h) refl
  where
    go : (o : Bool) → nat_eq h h ≡ o → cond o ps (chain h) ≡ ps
    go true e = refl
    go false e = absurd (no e)
      where
        no : nat_eq h h ≡ false → ⊥
        no e = grind (arith, nat_tests)

pub level_above : (chain : ℕ → List ℕ) (h : ℕ) (ps : List ℕ) (g : ℕ) → suc h ≤ g → with_level chain h ps g ≡ chain g
level_above chain h ps g up = go (nat_eq g h) refl
  where
    go : (o : Bool) → nat_eq g h ≡ o → cond o ps (chain g) ≡ chain g
    go true e = absurd (no e)
      where
        no : nat_eq g h ≡ true → ⊥
        no e = let same : g ≡ h = grind (arith, nat_tests) in omega (arith, same, up)
    go false e = refl

-- a height from h on is h or above it
here_or_above : (h g : ℕ) → h ≤ g → (g ≡ h) ⊎ (suc h ≤ g)
here_or_above h g le = go (nat_eq g h) refl
  where
    go : (o : Bool) → nat_eq g h ≡ o → (g ≡ h) ⊎ (suc h ≤ g)
    go true e = let same : g ≡ h = grind (arith, nat_tests) in inl same
    go false e = let off : g ≡ h → ⊥ = (λ s. grind (arith, nat_tests)) in inr (omega (arith, off, le))

-- no level at all
pub no_levels : (nodes : Nodes) (h : ℕ) → IsTreeFrom nodes h (λ g. []) (λ p. None)
no_levels nodes h = record {
  homed = λ g p le i. absurd i;
  page = λ p g e. absurd (none_some g e);
  run = λ g le. inl refl;
  pointer = λ g p n le i. absurd i;
  down = λ g p n le e. absurd (none_some p e);
}
  where
    none_some : (g : ℕ) → None ≡ Some g → ⊥
    none_some g e = cc

module _ {nodes : Nodes} {h : ℕ} {chain : ℕ → List ℕ} {home new : ℕ → Option ℕ} {ps : List ℕ}
    (is : IsTreeFrom nodes (suc h) chain home)
    (kept : (p g : ℕ) → home p ≡ Some g → new p ≡ Some g)
    (adds : (p g : ℕ) → new p ≡ Some g → (home p ≡ Some g) ⊎ ((g ≡ h) × IsAtHeight nodes (with_level chain h ps) p h))
    (seated : (p : ℕ) → In p ps → new p ≡ Some h)
    (run : (ps ≡ []) ⊎ Run nodes ps (head ps) [] None [])
    (leads : (p : ℕ) (n : Node) → In p (chain (suc h)) → nodes p ≡ Some n → (k : Key) (c : ℕ) → In (k, c) (pointers n.content) → IsPointerTo nodes new n h k c)
    (down : (p : ℕ) (n : Node) → head (chain (suc h)) ≡ Some p → nodes p ≡ Some n → head ps ≡ first_child (pointers n.content)) where
  abbrev more : ℕ → List ℕ
  more = with_level chain h ps

  above : (g : ℕ) → suc h ≤ g → more g ≡ chain g
  above g up = level_above chain h ps g up

  here : more h ≡ ps
  here = level_here chain h ps

  still : (p g : ℕ) → suc h ≤ g → IsAtHeight nodes chain p g → IsAtHeight nodes more p g
  still p g up a = record {
    node = a.node;
    live = a.live;
    page = a.page;
    stands = elim a.stands [ inl i ↦ inl (subst (λ c. In p c) (sym (above g up)) i) | inr m ↦ inr m ];
    parent = λ m. let q = a.parent m in (q.0, q.1, subst (λ c. In q.0 c) (sym (above (suc g) (omega (arith, up)))) q.2, q.3, q.4);
  }

  pub one_level : IsTreeFrom nodes h more new
  one_level = record {
    homed = λ g p le i. elim (here_or_above h g le) [
      | inl e ↦ seated p (subst (λ c. In p c) (ap more e ∙ here) i) ∙ ap Some (sym e)
      | inr up ↦ kept p g (is.homed g p up (subst (λ c. In p c) (above g up) i))
    ];
    page = λ p g e. elim (adds p g e) [
      | inl old ↦ let a = is.page p g old in (omega (arith, a.0), still p g a.0 a.1)
      | inr a ↦ (omega (arith, a.0), subst (λ z. IsAtHeight nodes more p z) (sym a.0) a.1)
    ];
    run = λ g le. elim (here_or_above h g le) [
      | inl e ↦ subst (λ c. (c ≡ []) ⊎ Run nodes c (head c) [] None []) (sym (ap more e ∙ here)) run
      | inr up ↦ subst (λ c. (c ≡ []) ⊎ Run nodes c (head c) [] None []) (sym (above g up)) (is.run g up)
    ];
    pointer = λ g p n le i live k c j. elim (here_or_above h g le) [
      | inl e ↦
          let stands : In p (chain (suc h)) = subst (λ l. In p l) (ap (λ z. more (suc z)) e ∙ above (suc h) (omega arith)) i in
          subst (λ z. IsPointerTo nodes new n z k c) (sym e) (leads p n stands live k c j)
      | inr up ↦
          let l = is.pointer g p n up (subst (λ c. In p c) (above (suc g) (omega (arith, up))) i) live k c j in
          record { node = l.node; live = l.live; homed = kept c g l.homed; key = l.key; merged = l.merged; few = l.few }
    ];
    down = λ g p n le e live. elim (here_or_above h g le) [
      | inl at ↦
          let begins : head (chain (suc h)) ≡ Some p = sym (ap head (ap (λ z. more (suc z)) at ∙ above (suc h) (omega arith))) ∙ e in
          ap head (ap more at ∙ here) ∙ down p n begins live
      | inr up ↦
          let begins : head (chain (suc g)) ≡ Some p = sym (ap head (above (suc g) (omega (arith, up)))) ∙ e in
          ap head (above g up) ∙ is.down g p n up begins live
    ];
  }

pub still_top : (chain : ℕ → List ℕ) (h : ℕ) (ps : List ℕ) (root : ℕ) → IsTop root (suc h) chain → IsTop root h (with_level chain h ps)
still_top chain h ps root t = record {
  height = t.height;
  above = omega (arith, t.above);
  begins = ap head (level_above chain h ps t.height t.above) ∙ t.begins;
  none = level_above chain h ps (suc t.height) (omega (arith, t.above)) ∙ t.none;
}
