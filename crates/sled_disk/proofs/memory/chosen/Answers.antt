use Rattle.std.proofs.Common.{◌≡◌, ◌∷◌, [], ◌++◌, drop, rules, ◌∙◌, ap, List, ℕ}
use Rattle.std.specs.Prelude.{slice_index}
use Rattle.std.proofs.lemmas.List.{drop-drop}
use Rattle.sled_disk.specs.Choices.{left_of}
use Rattle.sled_disk.specs.Chosen.{byte_by}
use Rattle.sled_disk.proofs.Bytes.{bytes_more}
use Rattle.sled_disk.proofs.memory.chosen.Goals as goal

pub loop-i-preserved : goal.loop-i-preserved
loop-i-preserved c =
    let i = c.loop-i.i in
    let numbers = left_of c.args.choices.now in
    let number = c.up_to-number.result in
    let next : c.push.new.self.items ≡ c.loop-i.bytes.items ++ byte_by number (slice_index c.args.old.now i) (slice_index c.args.new.now i) ∷ [] = search rules in
    record {
      bytes = bytes_more numbers (left_of c.loop-i.choices) c.args.old.now c.args.new.now c.loop-i.bytes.items c.push.new.self.items i number c.loop-i.invariant.bytes c.loop-i.invariant.left c.up_to-number.ensures.chosen next;
      left = c.up_to-number.ensures.left ∙ ap (λ (l : List ℕ). drop 1 l) c.loop-i.invariant.left ∙ drop-drop 1 i numbers;
    }
