-- What stands at the keys of a group.
use Rattle.std.proofs.Common.{◌≡◌, ◌∙◌, ℕ, ◌+◌, ◌<◌, List, [], ◌∷◌, ◌++◌, append-nil, append_assoc, length, map, take, get_or, suc, Option, Result, Ok, Err, IfOk, sym, ap, arith}
use Rattle.std.proofs.Math.Seq.{take-suc}
use Rattle.std.proofs.lemmas.List.{map-append}
use Rattle.std.specs.FinMap.Entries.{find}
use Rattle.sled_nodes.specs.Order.{Key, key_cmp}
use Rattle.sled_nodes.specs.declared.error.Error.{Error}
use Rattle.sled_batch.specs.Batch.{Writes}
use Rattle.sled_store.specs.Store.{Store}
use Rattle.sled_model.specs.Groups.{writes_on, writes_of}
use Rattle.sled_model.specs.Maps.{Maps, Merge}
use Rattle.sled_model.specs.State.{maps_of}
use Rattle.sled_model.specs.declared.tree.Tree.{Tree}
use Rattle.sled.specs.Reads.{ReadsMap}
use Rattle.sled.specs.Values.{DbValue, db_state}
use Rattle.machine_shared.specs.Stood.{found_in, stands_at, stood_in}
use Rattle.machine_shared.proofs.WholeMakes.{there_map}

-- the value that a read tells
pub stood_of : {P M : Type 0} (store : P → Store) (meant : M → Merge) (d : DbValue P M) (tree : Tree) (key : Key) (value : Option Key) (r : Result (Option Key) Error) → IfOk r (λ v. ReadsMap store meant d tree (λ map. v ≡ find key_cmp key map))
    → IfOk r (λ v. v ≡ stands_at (maps_of (db_state store meant d)) (record { tree = tree; key = key; value = value }))
stood_of store meant d tree key value (Ok v) r = r.is ∙ sym (ap (λ o. found_in o key) (there_map (db_state store meant d) tree.name r.named r.there))
stood_of store meant d tree key value (Err e) r = tt

-- so far these were read, and the others of a batch are left
pub record StandsSoFar (maps : Maps) (tree : Tree) (old : List (Option Key)) (all : Writes) (stood : List (Option Key)) (left : Writes) : Type 0 where
  pub is : old ++ map (stands_at maps) (writes_on tree all) ≡ stood ++ map (stands_at maps) (writes_on tree left)

pub stands_more : (maps : Maps) (tree : Tree) (old : List (Option Key)) (all : Writes) (stood new : List (Option Key)) (left more : Writes) (k : Key) (v stands : Option Key) → StandsSoFar maps tree old all stood left → left ≡ (k, v) ∷ more
    → stands ≡ stands_at maps (record { tree = tree; key = k; value = v }) → new ≡ stood ++ stands ∷ [] → StandsSoFar maps tree old all new more
stands_more maps tree old all stood new left more k v stands s e there is = record {
  is =
      s.is
      ∙ ap (λ l. stood ++ map (stands_at maps) (writes_on tree l)) e
      ∙ ap (λ x. stood ++ x ∷ map (stands_at maps) (writes_on tree more)) (sym there)
      ∙ sym (append_assoc stood (stands ∷ []) (map (stands_at maps) (writes_on tree more)))
      ∙ ap (λ l. l ++ map (stands_at maps) (writes_on tree more)) (sym is);
}

pub stands_all : (maps : Maps) (tree : Tree) (old : List (Option Key)) (all : Writes) (stood : List (Option Key)) (left : Writes) → StandsSoFar maps tree old all stood left → left ≡ [] → stood ≡ old ++ map (stands_at maps) (writes_on tree all)
stands_all maps tree old all stood left s e = sym (s.is ∙ ap (λ l. stood ++ map (stands_at maps) (writes_on tree l)) e ∙ append-nil stood)

-- one batch more
writes_more : (bs : List (Tree × Writes)) (b : Tree × Writes) → writes_of (bs ++ b ∷ []) ≡ writes_of bs ++ writes_on b.0 b.1
writes_more [] b = append-nil (writes_on b.0 b.1)
writes_more (c ∷ bs) b = ap (λ l. writes_on c.0 c.1 ++ l) (writes_more bs b) ∙ sym (append_assoc (writes_on c.0 c.1) (writes_of bs) (writes_on b.0 b.1))

pub stood_more : (maps : Maps) (group : List (Tree × Writes)) (i : ℕ) (b : Tree × Writes) (stood new : List (Option Key)) → i < length group → b ≡ get_or group i b → stood ≡ stood_in maps (take i group) → new ≡ stood ++ map (stands_at maps) (writes_on b.0 b.1)
    → new ≡ stood_in maps (take (i + 1) group)
stood_more maps group i b stood new less at so is =
    is
    ∙ ap (λ l. l ++ map (stands_at maps) (writes_on b.0 b.1)) so
    ∙ sym (map-append (stands_at maps) (writes_of (take i group)) (writes_on b.0 b.1))
    ∙ ap (map (stands_at maps)) (sym (writes_more (take i group) b) ∙ ap (λ c. writes_of (take i group ++ c ∷ [])) at ∙ sym (ap writes_of (take-suc group i b less)) ∙ ap (λ n. writes_of (take n group)) (let e : suc i ≡ i + 1 = omega arith in e))
