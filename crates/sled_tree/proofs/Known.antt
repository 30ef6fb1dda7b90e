-- What an action of one call leaves of what another knows.
use Rattle.std.proofs.Common.{◌≡◌, arith, ℕ, true, false, List, [], ◌∷◌, ◌++◌, Option, Some, refl, ap, ◌∙◌, subst, inl, inr, ◌⊎◌}
use Rattle.sled_store.specs.In.{In}
use Rattle.tree_laws.specs.Forest.{Tree, Forest}
use Rattle.tree_laws.specs.Snapshot.{Snapshot, nodes_at, HasForest}
use Rattle.tree_laws.specs.theory.Snapshot.{Guarantee, GrowsByReceiving, KeepsForest}
use Rattle.tree_laws.specs.Stages.{owned}
use Rattle.std.specs.declared.ops.Bound.TheVariants.{Included}
use Rattle.sled_nodes.proofs.Basics.{none_some, some_is, true_false}
use Rattle.sled_model.specs.Answer.{key_of}
use Rattle.sled_nodes.specs.Order.{Key}
use Rattle.sled_nodes.specs.Ranges.{Range}
use Rattle.sled_model.specs.State.{IsOnKey, range_of}
use Rattle.sled_model.specs.declared.call.Call.{Call}
use Rattle.sled_model.specs.declared.call.Call.TheVariants.{Get, Insert, Remove, CompareAndSwap, Merge, Scan}
use Rattle.sled_model.specs.declared.tree.Tree.{Tree as CallTree}
use Rattle.tree_laws.specs.declared.flight.Stage.{Stage}
use Rattle.tree_laws.specs.declared.flight.Stage.TheVariants.{Root}
use Rattle.tree_laws.proofs.Staged.{apart_law}
use Rattle.tree_laws.proofs.Staying.{stage_stays}
use Rattle.tree_laws.proofs.Reading.{one_law}
use Rattle.sled_tree.specs.Course.{Course, start_of, first_aim, aim_of, course, course_of, IsAimed}
use Rattle.sled_tree.specs.declared.flight.Aim.TheVariants.{Own}
use Rattle.sled_tree.specs.declared.flight.InFlight.{InFlight}
use Rattle.sled_tree.specs.Stages.{Knows}
use Rattle.sled_tree.specs.Known.{IsKnown}

-- what an action of one call leaves of what another knows, whose own pages are none of its
pub stage_kept : {mine : List ℕ} {lost : Option Tree} {old new : Snapshot} {w v : Forest} → HasForest old w → Guarantee mine lost old w new v → GrowsByReceiving (nodes_at old) (nodes_at new) w → (j : Course) (s : Stage) → ((q : ℕ) → In q (owned s) → In q mine → ⊥) → Knows old w j s → Knows new v j s
stage_kept {mine} {lost} {old} {new} {w} {v} is g grows j s off k = (stage_stays mine lost old w new v (record { is = is; goes = g; grows = grows }) j.tree.name j.tree.number j.aim s off k.0, k.1, k.2)

in_either : (q : ℕ) (xs ys : List ℕ) → In q (xs ++ ys) → In q xs ⊎ In q ys
in_either q [] ys i = inr i
in_either q (x ∷ xs) ys (inl e) = inl (inl e)
in_either q (x ∷ xs) ys (inr i) = elim (in_either q xs ys i) [ inl a ↦ inl (inr a) | inr b ↦ inr b ]

-- no page that a call comes to own is another's
pub not_own : {mine own : List ℕ} {old new : Snapshot} {w v : Forest} → HasForest old w → KeepsForest mine own old w new v → (h : InFlight) → IsKnown old h → ((q : ℕ) → In q mine → In q (owned h.stage) → ⊥) → (q : ℕ) → In q (owned h.stage) → In q own → ⊥
not_own {mine} {own} {old} {new} {w} is a h k off q i o = apart_law mine own old w is a.fresh h.job.tree.name h.job.tree.number (aim_of h.job h.aim) h.stage (k.is w is).0 q i (λ m. off q m i) o

-- what another call knows is true after the action
pub known_kept : {mine own : List ℕ} {old new : Snapshot} {w v : Forest} → HasForest old w → KeepsForest mine own old w new v → (h : InFlight) → IsKnown old h → ((q : ℕ) → In q mine → In q (owned h.stage) → ⊥) → IsKnown new h
known_kept {mine} {own} {old} {new} {w} {v} is a h k off = record {
  is = λ u at. subst (λ (z : Forest). Knows new z (course_of h) h.stage) (one_law (nodes_at new) new.state.roots v u a.is.formed at.formed)
      (stage_kept is a.goes a.grows (course_of h) h.stage (λ q i m. elim (in_either q mine own m) [ inl x ↦ off q x i | inr y ↦ not_own is a h k off q i y ]) (k.is w is));
  aimed = k.aimed;
  fits = k.fits;
  begins = k.begins;
}

-- what a call aims at first
aims_at_key : (call : Call) → IsOnKey call → first_aim call ≡ Included (key_of call)
aims_at_key (Get k) key = refl
aims_at_key (Insert k v) key = refl
aims_at_key (Remove k) key = refl
aims_at_key (CompareAndSwap k a b) key = refl
aims_at_key (Merge k bytes) key = refl
aims_at_key (Scan lo hi back) key = cc

rises_from : (call : Call) (range : Range) → range_of call ≡ Some range → range.back ≡ false → (k : Key) × (first_aim call ≡ Included k)
rises_from (Get k) range is up = none_some is
rises_from (Insert k v) range is up = none_some is
rises_from (Remove k) range is up = none_some is
rises_from (CompareAndSwap k a b) range is up = none_some is
rises_from (Merge k bytes) range is up = none_some is
rises_from (Scan lo hi false) range is up = (start_of lo, refl)
rises_from (Scan lo hi true) range is up = true_false (ap (λ (r : Range). r.back) (some_is is) ∙ up)

pub aims : (tree : CallTree) (call : Call) → IsAimed (course (record { tree = tree; call = call }) Own)
aims tree call = record { key = aims_at_key call; rises = rises_from call }

-- a call that begins knows nothing of the pages, and aims at its key
pub known_new : (m : Snapshot) (tree : CallTree) (call : Call) → IsKnown m (record { job = record { tree = tree; call = call }; aim = Own; stage = Root; turns = 0 })
known_new m tree call = record { is = λ w is. (tt, tt, aims tree call); aimed = aims tree call; fits = omega arith; begins = λ key none. refl }
