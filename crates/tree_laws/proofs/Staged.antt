-- The laws of the stages.
use Rattle.std.proofs.Common.{ℕ, [], ◌∷◌, sym, ◌∙◌, subst, inl, inr}
use Rattle.sled_nodes.proofs.Basics.{true_false}
use Rattle.std.specs.declared.ops.Bound.{Bound}
use Rattle.sled_store.specs.In.{In}
use Rattle.sled_nodes.specs.Order.{Key}
use Rattle.sled_nodes.specs.declared.node.Node.{Node}
use Rattle.tree_laws.specs.Forest.{Tree, Forest}
use Rattle.tree_laws.specs.Snapshot.{Snapshot}
use Rattle.tree_laws.specs.Stages.{IsOwn, IsStage, owned}
use Rattle.tree_laws.specs.theory.StageLaws.{ApartLaw, HereLaw, RootHereLaw, CursorHereLaw, InstallLeftLate, SwapRootLate, CapLate}
use Rattle.tree_laws.specs.declared.flight.Stage.{Stage}
use Rattle.tree_laws.specs.declared.flight.Stage.TheVariants as stage
use Rattle.tree_laws.proofs.Walks as walks

own_is : {m : Snapshot} {w : Forest} (p q : ℕ) → In q (p ∷ []) → (version : ℕ) × (n : Node) × IsOwn m w p version n → (version : ℕ) × (n : Node) × IsOwn m w q version n
own_is {m} {w} p q (inl e) f = subst (λ z. (version : ℕ) × (n : Node) × IsOwn m w z version n) (sym e) f
own_is p q (inr e) f = absurd e

-- a page of the call's own is live, and no part of any tree
own_of : (m : Snapshot) (w : Forest) (t : Tree) (number : ℕ) (aim : Bound Key) (a : Stage) → IsStage m w t number aim a → (q : ℕ) → In q (owned a) → (version : ℕ) × (n : Node) × IsOwn m w q version n
own_of m w t number aim (stage.InstallLeft a) k q i = own_is a.right q i (a.version, k.right, k.own)
own_of m w t number aim (stage.SwapRoot a) k q i = own_is a.new q i (a.version, k.root, k.own)
own_of m w t number aim (stage.Free a) k q i = own_is a.pid q i (a.version, k.node, k.own)
own_of m w t number aim other k q i = absurd i

pub apart_law : ApartLaw
apart_law mine own old w is fresh t number aim a k q i off o =
    let l = own_of old w t number aim a k q i in
    elim (fresh q o) [
      | inl mine ↦ off mine
      | inr b ↦ elim b [
        | inl unused ↦ true_false (sym (is.pids q _ l.2.live) ∙ unused)
        | inr home ↦ l.2.stray home.0 home.1
      ]
    ]

pub here_law : HereLaw
here_law m w is t number aim look by here calm = record {
  splits_below = walks.to_split_below is here calm;
  splits_root = walks.to_split_root is here calm;
  hoists = walks.to_hoisting is here calm;
  goes_on = walks.to_next is here calm;
  posts = walks.to_posting is here calm;
  intends = walks.to_intending is here calm;
  descends = walks.to_child is here calm;
  acts = walks.to_acting is here calm;
  answers = walks.here_answers is here calm;
}

pub root_here_law : RootHereLaw
root_here_law m w is t number aim look named root live = walks.root_here is t number aim look named root live

pub cursor_here_law : CursorHereLaw
cursor_here_law m w is t number aim a look named k at live = walks.cursor_here is t number aim a look named k at live

-- what came too late

pub shorten_late : InstallLeftLate
shorten_late m w t number aim a k = record { node = k.right; own = k.own }

pub crown_late : SwapRootLate
crown_late m w t number aim a k = record { node = k.root; own = k.own }

pub cap_late : CapLate
cap_late m w t number aim a k = record { height = k.height; merging = k.merging }
