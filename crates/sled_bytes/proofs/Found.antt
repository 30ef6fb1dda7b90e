-- What functions answer of bytes is spelled so.
use Rattle.std.proofs.Common.{◌≡◌, ℕ, List, ◌++◌, Result, Ok, Err, IfOk, drop}
use Rattle.std.specs.Global.{Vec}
use Rattle.std.specs.List.{flat_map, All}
use Rattle.sled_nodes.specs.declared.node.Node.{Node}
use Rattle.sled_bytes.specs.declared.change.Change.{Change}
use Rattle.sled_bytes.specs.declared.refusal.Refusal.{Refusal}
use Rattle.sled_bytes.specs.Spelling.{node_bytes, change_bytes, FitsBytes, FitsChange}
use Rattle.sled_bytes.specs.Reading.{Gives, Takes, node_at, change_at, changes_of}
use Rattle.sled_bytes.proofs.Spelled.{AreBytes, node_taken}
use Rattle.sled_bytes.proofs.SpelledChanges.{change_taken, changes_taken}

pub node_found : (bytes : List ℕ) (r : Result (Node × ℕ) Refusal) → AreBytes bytes → Takes bytes r (node_at bytes) → IfOk r (λ x. FitsBytes x.0 × (bytes ≡ node_bytes x.0 ++ drop x.1 bytes))
node_found bytes (Ok x) low gives = let t = node_taken bytes (x.0, drop x.1 bytes) low gives in (t.1, t.0.parts)
node_found bytes (Err e) low gives = tt

pub change_found : (bytes : List ℕ) (r : Result (Change × ℕ) Refusal) → AreBytes bytes → Takes bytes r (change_at bytes) → IfOk r (λ x. FitsChange x.0 × (bytes ≡ change_bytes x.0 ++ drop x.1 bytes))
change_found bytes (Ok x) low gives = let t = change_taken bytes (x.0, drop x.1 bytes) low gives in (t.1, t.0.parts)
change_found bytes (Err e) low gives = tt

pub changes_found : (bytes : List ℕ) (r : Result (Vec Change) Refusal) → AreBytes bytes → Gives (λ v. v.items) r (changes_of bytes) → IfOk r (λ v. All FitsChange v.items × (bytes ≡ flat_map change_bytes v.items))
changes_found bytes (Ok v) low gives = changes_taken bytes v.items low gives
changes_found bytes (Err e) low gives = tt
