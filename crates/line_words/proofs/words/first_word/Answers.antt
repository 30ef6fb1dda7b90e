use Rattle.std.proofs.Common.{◌≡◌, ◌+◌, ◌-◌, length, take, drop, arith, length-drop}
use Rattle.std.proofs.lemmas.List.{take_all}
use Rattle.line_words.proofs.Lines.{first_part, words_of-one}
use Rattle.line_words.proofs.Searching.{lacking}
use Rattle.line_words.proofs.words.first_word.Goals as goal

pub returns-in-Some : goal.returns-in-Some
returns-in-Some c =
    let line = c.args.line.now in
    let at = c.in-Some.at in
    let first = c.in-Some.ensures in
    let next = at + 1 in
    let rest : take (length line - next) (drop next line) ≡ drop next line = take_all _ _ (omega (arith, length-drop next line)) in
    rw rest (first_part 32 line at first.within first.stands (lacking 32 line at first.before))

pub returns-in-None : goal.returns-in-None
returns-in-None c = let line = c.args.line.now in words_of-one line (length line) (omega arith) (lacking 32 line (length line) c.in-None.ensures)
