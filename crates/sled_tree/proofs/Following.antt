-- What comes next, by the tests that were made.
use Rattle.std.proofs.Common.{◌≡◌, ◌<◌, ◌↔◌, IsTrue, ◌⊎◌, true, false, Bool, None, sym, ◌∙◌, subst, inl, inr}
use Rattle.std.specs.declared.ops.Bound.{Bound}
use Rattle.sled_nodes.proofs.Basics.{true_false, untrue}
use Rattle.sled_nodes.specs.Order.{Key}
use Rattle.sled_nodes.specs.Node.{count}
use Rattle.sled_store.specs.declared.page.View.{View}
use Rattle.sled_tree.specs.Course.{Course}
use Rattle.sled_tree.specs.declared.flight.Sequel.{Sequel}
use Rattle.sled_tree.specs.declared.flight.Sequel.TheVariants.{Go}
use Rattle.tree_laws.specs.Snapshot.{LiesUnder}
use Rattle.tree_laws.specs.declared.flight.Stage.TheVariants as stage
use Rattle.tree_laws.specs.declared.flight.Reached.{Reached}
use Rattle.sled_tree.specs.Follows.{follows_read, follows_not_merging, follows_open, follows_here, EndsWithin}

module _ (j : Course) (v : View) (by : Reached) (n : Sequel) (not_merging : v.node.merging ≡ false) (free : v.node.merging_child ≡ None) where
  pub opened : follows_open j v by n → follows_read j v by n
  opened f = inr ((λ m. true_false (sym m ∙ not_merging)), subst (λ o. follows_not_merging o j v by n) (sym free) f)

  -- a page that is short enough, and does not end within the aim
  module _ {P : Type 0} (long : Bool) (is_long : IsTrue long ↔ ((16 < count v.node.content) × P)) (short : long ≡ false) (kept : P)
      (bound bound2 : Bound Key) (called : bound ≡ j.aim) (called2 : bound2 ≡ j.aim) (ends : Bool) (is_ending : IsTrue ends ↔ EndsWithin v.node bound) (on : ends ≡ false)
      (lies : Bool) (is_lying : IsTrue lies ↔ LiesUnder bound2 v.node) where
    here : (lies ≡ true × follows_here j v by n) ⊎ ((lies ≡ false) × (n ≡ Go stage.Root)) → follows_read j v by n
    here f = opened (inr (
      (λ l. untrue long is_long short (l, kept)),
      inr (
        (λ e. untrue ends is_ending on (subst (EndsWithin v.node) (sym called) e)),
        elim f [
          | inl t ↦ inl (subst (λ z. LiesUnder z v.node) called2 (is_lying.0 t.0), t.1)
          | inr t ↦ inr ((λ k. untrue lies is_lying t.0 (subst (λ z. LiesUnder z v.node) (sym called2) k)), t.1)
        ],
      ),
    ))

    pub outside : lies ≡ false → n ≡ Go stage.Root → follows_read j v by n
    outside e r = here (inr (e, r))

    pub inside : lies ≡ true → follows_here j v by n → follows_read j v by n
    inside e r = here (inl (e, r))
