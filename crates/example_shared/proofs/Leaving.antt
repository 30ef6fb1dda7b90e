-- What passes a key by leaves what stands there.
use Rattle.std.proofs.Common.{◌≡◌, ◌∙◌, Bool, true, false, cond, [], Option, Some, None, sym, refl, ap}
use Rattle.std.specs.Str.{bytes_eq}
use Rattle.sled_nodes.specs.Order.{Key}
use Rattle.sled_store.specs.Update.{put_name}
use Rattle.sled_store.specs.theory.Facts.{same_name}
use Rattle.sled_model.specs.Maps.{Map, Maps}
use Rattle.sled_model.specs.declared.call.Call.{Call}
use Rattle.sled_model.specs.declared.call.Call.TheVariants.{Get}
use Rattle.sled_model.specs.declared.decision.Decision.{Decision}
use Rattle.sled_model.specs.declared.reply.Reply.{Reply}
use Rattle.sled_model.specs.declared.tree.Tree.{Tree}
use Rattle.machine_shared.specs.Made.{PointMade, WholeMade, PartsMade, ReadMade, TransactionMade}
use Rattle.machine_shared.specs.WholeMade.{map_popped, maps_opened}
use Rattle.machine_shared.specs.Wholes.{WholeValue, Flush, PopMin, PopMax, Clear, Group, OpenTree, DropTree, GenerateId, Import, Watch, Next, Unsubscribe}
use Rattle.example_shared.specs.Places.{found_in, value_at, Leaves, point_passes, whole_passes, LeavesLaw}
use Rattle.example_shared.proofs.Standing.{put_other, point_elsewhere, point_none}

-- an empty map has what no map has
fresh : (maps : Maps) (name tree key : Key) → maps name ≡ None → value_at (put_name maps name (Some [])) tree key ≡ value_at maps tree key
fresh maps name tree key none = go (bytes_eq tree name) refl
  where
    go : (b : Bool) → bytes_eq tree name ≡ b → found_in (cond b (Some []) (maps tree)) key ≡ found_in (maps tree) key
    go true e = sym (ap (λ o. found_in o key) (ap maps (same_name tree name e) ∙ none))
    go false e = refl

opened : (maps : Maps) (name tree key : Key) (o : Option Map) → maps name ≡ o → value_at (maps_opened o name maps) tree key ≡ value_at maps tree key
opened maps name tree key (Some map) e = refl
opened maps name tree key None e = fresh maps name tree key e

point_leaves : (tree key : Key) (t : Tree) (call : Call) (reply : Reply) → point_passes tree key t call → Leaves tree key (PointMade t call reply)
point_leaves tree key t (Get k) reply h old new p = point_none old t (Get k) reply new p (ap (λ (d : Decision). d.effect) p.comes) tree key
point_leaves tree key t call reply h old new p = point_elsewhere old t call reply new p tree key h

whole_leaves : (tree key : Key) (w : WholeValue) (reply : Reply) → whole_passes tree w → Leaves tree key (WholeMade w reply)
whole_leaves tree key Flush reply h old new p = ap (λ (m : Maps). value_at m tree key) p.1
whole_leaves tree key (PopMin t) reply h old new p = ap (λ (m : Maps). value_at m tree key) p.is ∙ put_other old t.name tree key (Some (map_popped p.found p.map)) (λ e. h (sym e))
whole_leaves tree key (PopMax t) reply h old new p = ap (λ (m : Maps). value_at m tree key) p.is ∙ put_other old t.name tree key (Some (map_popped p.found p.map)) (λ e. h (sym e))
whole_leaves tree key (Clear t) reply h old new p = ap (λ (m : Maps). value_at m tree key) p.is ∙ put_other old t.name tree key (Some []) (λ e. h (sym e))
whole_leaves tree key (Group batches) reply h old new p = absurd h
whole_leaves tree key (OpenTree name) reply h old new p = ap (λ (m : Maps). value_at m tree key) p.1 ∙ opened old name tree key (old name) refl
whole_leaves tree key (DropTree name) reply h old new p = ap (λ (m : Maps). value_at m tree key) p.2 ∙ put_other old name tree key None (λ e. h (sym e))
whole_leaves tree key GenerateId reply h old new p = ap (λ (m : Maps). value_at m tree key) p.1
whole_leaves tree key (Import all) reply h old new p = absurd h
whole_leaves tree key (Watch t prefix) reply h old new p = ap (λ (m : Maps). value_at m tree key) p.1
whole_leaves tree key (Next subscriber) reply h old new p = ap (λ (m : Maps). value_at m tree key) p.1
whole_leaves tree key (Unsubscribe subscriber) reply h old new p = ap (λ (m : Maps). value_at m tree key) p.1

pub leaves : LeavesLaw
leaves tree key (PointMade t call reply) h = point_leaves tree key t call reply h
leaves tree key (WholeMade whole reply) h = whole_leaves tree key whole reply h
leaves tree key (PartsMade whole number) h = absurd h
leaves tree key (ReadMade read) h = λ old new p. ap (λ (m : Maps). value_at m tree key) p.1
leaves tree key (TransactionMade batches stood) h = absurd h
