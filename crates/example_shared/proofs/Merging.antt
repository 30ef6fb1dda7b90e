-- What merges at a key reply is what stands there.
use Rattle.std.proofs.Common.{◌≡◌, ◌⊎◌, ◌∙◌, Bool, true, false, cond, List, [], ◌∷◌, ◌++◌, Option, sym, refl, ap, subst, inl, inr}
use Rattle.std.specs.FinMap.Entries.{find}
use Rattle.std.specs.List.{AllByRecursion}
use Rattle.sled_nodes.proofs.Basics.{false_true}
use Rattle.sled_nodes.specs.Order.{Key, key_cmp}
use Rattle.sled_model.specs.Maps.{Maps}
use Rattle.sled_model.specs.declared.call.Call.TheVariants.{Get, Merge}
use Rattle.sled_model.specs.declared.decision.Decision.{Decision}
use Rattle.sled_model.specs.declared.reply.Reply.{Reply}
use Rattle.sled_model.specs.declared.reply.Reply.TheVariants.{Value}
use Rattle.sled_model.specs.declared.tree.Tree.{Tree}
use Rattle.machine_shared.specs.History.{MakesPoint, makes_as}
use Rattle.machine_shared.specs.Made.{MadeValue, PointMade}
use Rattle.example_shared.specs.Places.{value_at, made_in, is_at, Leaves}
use Rattle.example_shared.specs.Counting.{IsMergeAt, merged_by, merged, last_of, MergesLaw}
use Rattle.example_shared.proofs.Keys.{after_effect, write_leaves, at_same, at_itself}
use Rattle.example_shared.proofs.Standing.{stood, point_here, Makes, legal_makes, cut, all_first, only_leaves}

value_is : {v w : Option Key} → Value v ≡ Value w → v ≡ w
value_is e = cc

-- a merge replies the value that it writes
module _ (old : Maps) (t : Tree) (k bytes : Key) (reply : Reply) (new : Maps) (p : MakesPoint old t (Merge k bytes) reply new) where
  merge_told : reply ≡ Value p.comes.0
  merge_told = p.replies ∙ ap (λ (d : Decision). d.reply) p.comes.1

  merge_here : value_at new t.name k ≡ p.comes.0
  merge_here =
      point_here old t (Merge k bytes) reply new p
      ∙ ap (λ (d : Decision). after_effect d.effect (find key_cmp k p.map)) p.comes.1
      ∙ write_leaves p.comes.0 (find key_cmp k p.map)

last_on : (value : Option Key) (us vs : List (Option Key)) → last_of value (us ++ vs) ≡ last_of (last_of value us) vs
last_on value [] vs = refl
last_on value (u ∷ us) vs = last_on u us vs

module _ (tree key : Key) where
  merge_step : (t : Tree) (k bytes : Key) (reply : Reply) (a c : Maps) → MakesPoint a t (Merge k bytes) reply c → ((t.name ≡ tree) × (k ≡ key)) ⊎ Leaves tree key (PointMade t (Merge k bytes) reply)
      → (v : Option Key) → value_at c t.name k ≡ v → (b : Bool) → is_at tree key t k ≡ b → value_at c tree key ≡ last_of (value_at a tree key) (cond b (v ∷ []) [])
  merge_step t k bytes reply a c p h v here true e =
      let same = at_same tree key t k e in
      subst (λ n. value_at c n key ≡ v) same.0 (subst (λ q. value_at c t.name q ≡ v) same.1 here)
  merge_step t k bytes reply a c p (inl same) v here false e = false_true (sym e ∙ at_itself tree key t k same.0 same.1)
  merge_step t k bytes reply a c p (inr leaves) v here false e = leaves a c p

  merges_step : (m : MadeValue) (a c : Maps) → makes_as a m c → IsMergeAt tree key m ⊎ Leaves tree key m → value_at c tree key ≡ last_of (value_at a tree key) (merged_by tree key m)
  merges_step (PointMade t (Merge k bytes) reply) a c p h =
      subst (λ r. value_at c tree key ≡ last_of (value_at a tree key) (merged_by tree key (PointMade t (Merge k bytes) r))) (sym (merge_told a t k bytes reply c p))
      (merge_step t k bytes reply a c p h p.comes.0 (merge_here a t k bytes reply c p) (is_at tree key t k) refl)
  merges_step m a c p h = only_leaves tree key m a c p h

  merges : (made : List MadeValue) (a b : Maps) → Makes a made b → AllByRecursion (λ m. IsMergeAt tree key m ⊎ Leaves tree key m) made → value_at b tree key ≡ last_of (value_at a tree key) (merged tree key made)
  merges [] a b h all = ap (λ (m : Maps). value_at m tree key) h
  merges (m ∷ made) a b h all =
      merges made h.0 b h.2 all.1
      ∙ ap (λ v. last_of v (merged tree key made)) (merges_step m a h.0 h.1 all.0)
      ∙ sym (last_on (value_at a tree key) (merged_by tree key m) (merged tree key made))

  -- a read replies what stands
  read_here : (t : Tree) (value : Option Key) (a c : Maps) → MakesPoint a t (Get key) (Value value) c → t.name ≡ tree → value ≡ value_at a tree key
  read_here t value a c p name =
      value_is (p.replies ∙ ap (λ (d : Decision). d.reply) p.comes)
      ∙ sym (stood a t (Get key) (Value value) c p)
      ∙ ap (λ n. value_at a n key) name

  reads : (made : List MadeValue) (a b : Maps) → Makes a made b → AllByRecursion (λ m. IsMergeAt tree key m ⊎ Leaves tree key m) made
      → (before after : List MadeValue) (t : Tree) (value : Option Key) → made ≡ before ++ PointMade t (Get key) (Value value) ∷ after → t.name ≡ tree
      → value ≡ last_of (value_at a tree key) (merged tree key before)
  reads made a b h all before after t value split name =
      let r = cut before (PointMade t (Get key) (Value value) ∷ after) a b (subst (λ l. Makes a l b) split h) in
      read_here t value r.0 r.2.0 r.2.1 name
      ∙ merges before a r.0 r.1 (all_first (λ m. IsMergeAt tree key m ⊎ Leaves tree key m) before (PointMade t (Get key) (Value value) ∷ after) (subst (AllByRecursion (λ m. IsMergeAt tree key m ⊎ Leaves tree key m)) split all))

pub merges_law : MergesLaw
merges_law old new tree key history legal all = record {
  ends = merges tree key (made_in history) old new (legal_makes legal) all;
  reads = reads tree key (made_in history) old new (legal_makes legal) all;
}
