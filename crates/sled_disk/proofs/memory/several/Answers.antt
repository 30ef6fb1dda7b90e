use Rattle.std.proofs.Common.{◌≡◌, ◌∙◌, drop, rules}
use Rattle.std.proofs.lemmas.List.{drop-drop}
use Rattle.sled_disk.specs.Choices.{left_of}
use Rattle.sled_disk.specs.Chosen.{count_by}
use Rattle.sled_disk.proofs.memory.several.Goals as goal

pub returns-clause-left : goal.returns-clause-left
returns-clause-left c =
    let numbers = left_of c.args.choices.now in
    let count = count_by numbers c.args.at c.args.bytes.now c.args.file.now in
    let behind : left_of c.chosen.new.choices ≡ drop count (drop 1 numbers) = search rules in
    behind ∙ drop-drop count 1 numbers
