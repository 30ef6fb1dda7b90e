-- Of Serve, for proofs. The program as a whole.
use Rattle.std.specs.Prelude.{◌≡◌, ℕ, ◌+◌, Bool, true, false, List, [], ◌∷◌, IsSome, Option, Some, None, IfSome}
use Rattle.std.specs.Io.KnownBytes.{Keeps}
use Rattle.sled_store.specs.Store.{Store}
use Rattle.sled_model.specs.Maps.{Merge}
use Rattle.line_words.specs.Command.{command_of}
use Rattle.line_words.specs.Print.{Prints}
use Rattle.line_sessions.specs.Serve.{lines_of, crash_of, Lives, LivesOver, Serves, Place}
use Rattle.line_sessions.specs.Session.{CanRun}
use Rattle.line_words.specs.declared.command.Command.{Command}
use Rattle.line_words.specs.declared.command.Command.TheVariants as command
use Rattle.line_sessions.specs.declared.session.Session.{Session}
use Rattle.line_sessions.specs.declared.lines.Line.{Line}
use Rattle.line_sessions.specs.declared.lines.Line.TheVariants as line
use Rattle.line_sessions.specs.declared.lines.End.{End}

-- What is read next says whether a line is bad: it is the line of the number n, or there is none, or the same as before
abbrev pub Reads : Option (Option ℕ) → Option (Option ℕ) → ℕ → Line → Type 0
Reads before after n line.NoLine = IfSome before (λ bad. bad ≡ None)
Reads before after n line.BadLine = IfSome before (λ bad. bad ≡ Some n)
Reads before after n (line.Crash keep) = IfSome before (λ bad. after ≡ Some bad)
Reads before after n (line.Command c) = IfSome before (λ bad. after ≡ Some bad)

-- whether every line could be read
abbrev pub Ran : Option (Option ℕ) → Bool → Type 0
Ran before true = IfSome before (λ bad. bad ≡ None)
Ran before false = IfSome before (λ bad. IsSome bad)

-- a text begins with a line that reads so, and a reader has the others left
pub record BeginsSo (text : List ℕ) (read : Option Command) (after : Option (List ℕ)) : Type 0 where
  pub line : List ℕ
  pub rest : List ℕ
  pub lines : lines_of text ≡ line ∷ lines_of rest
  pub reads : command_of line ≡ read
  pub left : after ≡ Some rest

-- what is read next is the command of the first line, if there is a line
abbrev pub ReadsNext : Option (List ℕ) → Option (List ℕ) → Option (Option Command) → Type 0
ReadsNext before after None = IfSome before (λ text. (text ≡ []) × (after ≡ Some []))
ReadsNext before after (Some read) = IfSome before (λ text. BeginsSo text read after)

-- the same of a line that a reader holds whole; if it holds none, nothing is read
abbrev pub ReadsHeld : Option (List ℕ) → Option (List ℕ) → Option (Option Command) → Type 0
ReadsHeld before after None = Keeps before after
ReadsHeld before after (Some read) = IfSome before (λ text. BeginsSo text read after)

-- a command that was read can be run
abbrev pub CanAllRun : Option (Option Command) → Type 0
CanAllRun next = IfSome next (λ read. IfSome read CanRun)

-- the line behind n others was read so, and has the number m
pub record Took (before after : Option (List ℕ)) (n m : ℕ) (read : Option Command) : Type 0 where
  pub number : m ≡ n + 1
  pub is : IfSome before (λ text. BeginsSo text read after)

-- what is read next, and what the reader has left then
abbrev pub Takes : Option (List ℕ) → Option (List ℕ) → ℕ → ℕ → Line → Type 0
Takes before after n m line.NoLine = (m ≡ n) × IfSome before (λ text. (text ≡ []) × (after ≡ Some []))
Takes before after n m line.BadLine = Took before after n m None
Takes before after n m (line.Crash keep) = Took before after n m (Some (command.Crash keep))
Takes before after n m (line.Command c) = (crash_of c ≡ None) × Took before after n m (Some c)

-- what is to be done with a line that reads so
abbrev pub IsToDo : Option Command → Line → Type 0
IsToDo read line.NoLine = ⊥
IsToDo read line.BadLine = read ≡ None
IsToDo read (line.Crash keep) = read ≡ Some (command.Crash keep)
IsToDo read (line.Command c) = (read ≡ Some c) × (crash_of c ≡ None)

-- what is read can be run
abbrev pub CanDo : Line → Type 0
CanDo (line.Command c) = CanRun c
CanDo l = Unit {0}

-- from here to there the session goes on over this text
pub record LivesOn {P M : Type 0} (store : P → Store) (flush_number : P → ℕ) (meant : M → Merge) (s : Session P M) (here : Place) (e : End) (last : Session P M) (there : Place) (text : List ℕ) : Type 0 where
  pub texts : List ℕ
  pub rest : List ℕ
  pub lives : Lives store flush_number meant here.number s (lines_of text) texts e there.number last (lines_of rest)
  pub left : there.left ≡ Some rest
  pub prints : Prints here.held here.gathered there.held there.gathered texts

-- the same of what the reader has left, if that is known
abbrev pub LivesFrom : {P M : Type 0} → (P → Store) → (P → ℕ) → (M → Merge) → Session P M → Place → End → Session P M → Place → Type 0
LivesFrom store flush_number meant s here e last there = IfSome here.left (λ text. LivesOn store flush_number meant s here e last there text)

-- a session over what a store held lived from here to there over this text, and left this store
pub record LivedOn (before : Store) (here : Place) (e : End) (after : Store) (there : Place) (text : List ℕ) : Type 0 where
  pub texts : List ℕ
  pub rest : List ℕ
  pub lived : LivesOver here.number before (lines_of text) texts e there.number after (lines_of rest)
  pub left : there.left ≡ Some rest
  pub prints : Prints here.held here.gathered there.held there.gathered texts

-- the same of what the reader has left, if that is known
abbrev pub LivedFrom : Store → Place → End → Store → Place → Type 0
LivedFrom before here e after there = IfSome here.left (λ text. LivedOn before here e after there text)

-- sessions from here to there over this text, the first over what a store held
pub record ServesOn (before : Store) (here : Place) (read : Bool) (there : Place) (text : List ℕ) : Type 0 where
  pub texts : List ℕ
  pub serves : Serves here.number before (lines_of text) texts read
  pub prints : Prints here.held here.gathered there.held there.gathered texts

abbrev pub ServesFrom : Store → Place → Bool → Place → Type 0
ServesFrom before here read there = IfSome here.left (λ text. ServesOn before here read there text)
