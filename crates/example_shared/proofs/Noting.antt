-- What merges, and the calls of a queue, add to the list of their caller.
use Rattle.std.proofs.Common.{◌≡◌, ◌∙◌, ℕ, List, [], ◌∷◌, ◌++◌, append-nil, append_assoc, Option, refl, ap, inl, inr}
use Rattle.std.specs.Int.{w64, to_be_bytes}
use Rattle.sled_nodes.specs.Order.{Key}
use Rattle.sled_model.specs.declared.call.Call.TheVariants.{Insert, Merge}
use Rattle.sled_model.specs.declared.call.Whole.TheVariants as whole
use Rattle.sled_model.specs.declared.outcome.Outcome.{Outcome}
use Rattle.sled_model.specs.declared.outcome.Outcome.TheVariants as outcome
use Rattle.sled_model.specs.declared.reply.Reply.{Reply}
use Rattle.sled_model.specs.declared.reply.Reply.TheVariants.{Number, Value}
use Rattle.sled_model.specs.declared.tree.Tree.{Tree}
use Rattle.tree_steps.specs.Outcomes.{kept_of}
use Rattle.machine_shared.specs.Made.{MadeValue, PointMade, WholeMade}
use Rattle.machine_shared.specs.WholeNotes.{noted_with, AddsWhole}
use Rattle.machine_shared.specs.Wholes.{WholeValue, PopMin, GenerateId}
use Rattle.example_parts.specs.Counters.{number_in}
use Rattle.example_shared.specs.Counting.{AddsOne}
use Rattle.example_shared.specs.Queueing.{noted_of_whole, Pushes, PushesNone}

-- ---- a merge

pub adds_one : (tree : Tree) (key bytes : Key) (n : ℕ) (value : Option Key) (made more : List MadeValue) → n ≡ number_in value → bytes ≡ to_be_bytes w64 1
    → more ≡ made ++ PointMade tree (Merge key bytes) (Value value) ∷ [] → AddsOne tree key n made more
adds_one tree key bytes n value made more tells same adds = record {
  value = value;
  told = tells;
  adds = adds ∙ ap (λ b. made ++ PointMade tree (Merge key b) (Value value) ∷ []) same;
}

-- ---- whole calls

noted : (w : WholeValue) (o : Outcome) → noted_with w (kept_of o) 0 ≡ noted_of_whole o w
noted w (outcome.Decided reply) = refl
noted w o = refl

noted_at : (w : WholeValue) (o : Outcome) (n : ℕ) → n ≡ 0 → noted_with w (kept_of o) n ≡ noted_of_whole o w
noted_at w o n none = ap (noted_with w (kept_of o)) none ∙ noted w o

pub adds_id : (o : Outcome) (made more : List MadeValue) → AddsWhole whole.GenerateId o made more → more ≡ made ++ noted_of_whole o GenerateId
adds_id o made more a = a.adds ∙ ap (λ l. made ++ l) (noted_at GenerateId o a.number (a.parts (λ e. cc)))

pub adds_pop : (t : Tree) (o : Outcome) (made more : List MadeValue) → AddsWhole (whole.PopMin t) o made more → more ≡ made ++ noted_of_whole o (PopMin t)
adds_pop t o made more a = a.adds ∙ ap (λ l. made ++ l) (noted_at (PopMin t) o a.number (a.parts (λ e. cc)))

-- ---- a job that is put in

pub id_or_none : (o : Outcome) (made more : List MadeValue) → more ≡ made ++ noted_of_whole o GenerateId → PushesNone made more
id_or_none (outcome.Decided reply) made more adds = inr (reply, adds)
id_or_none o made more adds = inl (adds ∙ append-nil made)

pub pushes : (queue : Tree) (job bytes : Key) (id : ℕ) (reply : Reply) (made mid more : List MadeValue) → mid ≡ made ++ WholeMade GenerateId (Number id) ∷ [] → bytes ≡ to_be_bytes w64 id
    → more ≡ mid ++ PointMade queue (Insert bytes job) reply ∷ [] → Pushes queue job id made more
pushes queue job bytes id reply made mid more given same adds = record {
  reply = reply;
  adds =
      adds
      ∙ ap (λ b. mid ++ PointMade queue (Insert b job) reply ∷ []) same
      ∙ ap (λ l. l ++ PointMade queue (Insert (to_be_bytes w64 id) job) reply ∷ []) given
      ∙ append_assoc made (WholeMade GenerateId (Number id) ∷ []) (PointMade queue (Insert (to_be_bytes w64 id) job) reply ∷ []);
}
