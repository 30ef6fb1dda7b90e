-- The program as a whole.
use Rattle.std.specs.Prelude.{◌≡◌, ℕ, zero, suc, ◌+◌, ◌==◌, Bool, true, false, is_some, IsSome, IfSome, List, [], ◌∷◌, ◌++◌, Option, Some, None, codes, if◌then◌else◌}
use Rattle.std.specs.List.{slice_split}
use Rattle.std.specs.Str.{bytes_eq}
use Rattle.sled_store.specs.Crash.{Crashes}
use Rattle.sled_pages.specs.Memory.{store_of, flush_number_of, empty_store}
use Rattle.sled_store.specs.Store.{Store}
use Rattle.sled_pages.specs.declared.memory.MemPages.{MemPages}
use Rattle.sled_model.specs.Maps.{Merge}
use Rattle.sled_model.specs.State.{default_name}
use Rattle.sled.specs.Calls.{IsHandle}
use Rattle.sled.specs.Opens.{Opens}
use Rattle.line_words.specs.Command.{command_of}
use Rattle.line_words.specs.Print.{Prints, recovered_line, bad_line}
use Rattle.line_sessions.specs.Session.{obeys}
use Rattle.line_words.specs.declared.command.Command.{Command}
use Rattle.line_words.specs.declared.command.Command.TheVariants as command
use Rattle.line_sessions.specs.declared.operator.NoOperator.{NoOperator}
use Rattle.line_sessions.specs.declared.lines.Buffers.{Buffers}
use Rattle.line_sessions.specs.declared.lines.End.{End}
use Rattle.line_sessions.specs.declared.lines.End.TheVariants.{NoLine, BadLine, Crash}
use Rattle.line_sessions.specs.declared.session.Session.{Session}

-- parts, without the last of them if it is empty
abbrev pub without_last : List (List ℕ) → List (List ℕ)
without_last [] = []
without_last (part ∷ []) = if bytes_eq part [] then [] else (part ∷ [])
without_last (part ∷ next ∷ parts) = part ∷ without_last (next ∷ parts)

-- the lines of a text: each ends at the byte 10, and the last may lack it
abbrev pub lines_of : List ℕ → List (List ℕ)
lines_of text = without_last (slice_split (λ b. b == 10) text)

-- the number of the first line that cannot be read, if the first of these lines has the number n
abbrev pub first_bad : ℕ → List (List ℕ) → Option ℕ
first_bad n [] = None
first_bad n (line ∷ lines) = if is_some (command_of line) then first_bad (n + 1) lines else Some n

-- the same of what a reader has left behind n lines, if its bytes are known
abbrev pub bad_left : ℕ → Option (List ℕ) → Option (Option ℕ)
bad_left n None = None
bad_left n (Some text) = Some (first_bad (n + 1) (lines_of text))

-- The exit status: 0 if every line can be read, and 1 if one cannot
pub record IsStatus (bad : Option ℕ) (status : ℕ) : Type 0 where
  pub all : status ≡ 0 → bad ≡ None
  pub some : status ≡ 1 → IsSome bad

-- how many actions a crash keeps, if the command is one
abbrev pub crash_of : Command → Option ℕ
crash_of (command.Crash keep) = Some keep
crash_of c = None

-- A session goes on over these lines, behind n others, until it ends: at the end of the lines, at one that cannot be read, or at a crash.
-- Each line before that is read as a command and run. The text is what is printed; m lines were read then, and the last lines were not
pub data Lives {P M : Type 0} (store : P → Store) (flush_number : P → ℕ) (meant : M → Merge) : ℕ → Session P M → List (List ℕ) → List ℕ → End → ℕ → Session P M → List (List ℕ) → Type 0 where
  AtEnd : {n : ℕ} {s : Session P M} → Lives store flush_number meant n s [] [] NoLine n s []
  AtBadLine : {n : ℕ} {s : Session P M} {line : List ℕ} {lines : List (List ℕ)} → command_of line ≡ None → Lives store flush_number meant n s (line ∷ lines) (bad_line (n + 1)) BadLine (n + 1) s lines
  AtCrash : {n keep : ℕ} {s : Session P M} {line : List ℕ} {lines : List (List ℕ)} → command_of line ≡ Some (command.Crash keep) → Lives store flush_number meant n s (line ∷ lines) [] (Crash keep) (n + 1) s lines
  Obeying : {n m : ℕ} {s next last : Session P M} {line : List ℕ} {lines rest : List (List ℕ)} (c : Command) (text : List ℕ) {texts : List ℕ} {e : End} → command_of line ≡ Some c → crash_of c ≡ None
      → obeys store flush_number meant s c text next → Lives store flush_number meant (n + 1) next lines texts e m last rest → Lives store flush_number meant n s (line ∷ lines) (text ++ texts) e m last rest

-- The end of lines says whether one is bad: it is the line of the number n, or there is none, or the same as before
abbrev pub Ends : Option (Option ℕ) → Option (Option ℕ) → ℕ → End → Type 0
Ends before after n NoLine = IfSome before (λ bad. bad ≡ None)
Ends before after n BadLine = IfSome before (λ bad. bad ≡ Some n)
Ends before after n (Crash keep) = IfSome before (λ bad. after ≡ Some bad)

-- how far a run is: how many lines were read, what the reader has left, what the writer holds, and what is gathered for it
pub record Place : Type 0 where
  pub number : ℕ
  pub left : Option (List ℕ)
  pub held : Option (List ℕ)
  pub gathered : List ℕ

abbrev pub place : Buffers → Option (List ℕ) → Option (List ℕ) → Place
place buffers left held = record { number = buffers.number; left = left; held = held; gathered = buffers.out.items }

-- what is said of how lines end: which of them cannot be read
abbrev pub told_of : End → ℕ → List ℕ
told_of BadLine n = bad_line n
told_of e n = []

-- From here to there a session goes on over this text. These texts are printed; what is said of how it ends is not, and comes behind them
pub record RunsOn {P M : Type 0} (store : P → Store) (flush_number : P → ℕ) (meant : M → Merge) (s : Session P M) (here : Place) (e : End) (last : Session P M) (there : Place) (text : List ℕ) : Type 0 where
  pub texts : List ℕ
  pub rest : List ℕ
  pub lives : Lives store flush_number meant here.number s (lines_of text) (texts ++ told_of e there.number) e there.number last (lines_of rest)
  pub left : there.left ≡ Some rest
  pub prints : Prints here.held here.gathered there.held there.gathered texts

-- the same of what the reader has left, if that is known
abbrev pub RunsFrom : {P M : Type 0} → (P → Store) → (P → ℕ) → (M → Merge) → Session P M → Place → End → Session P M → Place → Type 0
RunsFrom store flush_number meant s here e last there = IfSome here.left (λ text. RunsOn store flush_number meant s here e last there text)

-- no merge operator is asked for anything, since no line gives a tree one
abbrev pub no_meaning : NoOperator → Merge
no_meaning operator key old new = None

-- A session begins over what a store held: it is opened under the program's name, the default tree is current, and no call is in flight
pub record OpensSession (before : Store) (s : Session MemPages NoOperator) : Type 0 where
  pub opens : Opens store_of before (codes "sledrun") s.machine.db
  pub tree : IsHandle s.machine.db default_name s.tree
  pub flights : s.machine.flights ≡ []
  pub given : s.machine.slots_given ≡ 0
  pub slots : s.slots.items ≡ []

-- what a session prints first: that the store is what a crash left
abbrev pub recovered_text : Bool → List ℕ
recovered_text true = recovered_line
recovered_text false = []

-- A session over what a store held runs these lines until it ends, and leaves this store
pub record LivesOver (n : ℕ) (before : Store) (lines : List (List ℕ)) (text : List ℕ) (e : End) (m : ℕ) (after : Store) (rest : List (List ℕ)) : Type 0 where
  pub first : Session MemPages NoOperator
  pub last : Session MemPages NoOperator
  pub opens : OpensSession before first
  pub texts : List ℕ
  pub lives : Lives store_of flush_number_of no_meaning n first lines texts e m last rest
  pub is : text ≡ recovered_text before.recovered ++ texts
  pub left : after ≡ store_of last.machine.db.pages

-- Sessions, one after the other, over these lines behind n others: the first over what a store held, and each later one over what the crash
-- left that ended the one before. The last ends with the lines, or at one that cannot be read. This is what they print
pub data Serves : ℕ → Store → List (List ℕ) → List ℕ → Bool → Type 0 where
  ToTheEnd : {n m : ℕ} {before after : Store} {lines rest : List (List ℕ)} {text : List ℕ} → LivesOver n before lines text NoLine m after rest → Serves n before lines text true
  ToABadLine : {n m : ℕ} {before after : Store} {lines rest : List (List ℕ)} {text : List ℕ} → LivesOver n before lines text BadLine m after rest → Serves n before lines text false
  ToACrash : {n m keep : ℕ} {before after next : Store} {lines rest : List (List ℕ)} {text more : List ℕ} {read : Bool} → LivesOver n before lines text (Crash keep) m after rest → Crashes keep after next
      → Serves m next rest more read → Serves n before lines (text ++ more) read

-- What the program printed over this text, whether or not all lines could be read: what sessions print, the first over an empty store
pub record Served (text : List ℕ) (held held_then : Option (List ℕ)) (read : Bool) : Type 0 where
  pub printed : List ℕ
  pub serves : Serves 0 empty_store (lines_of text) printed read
  pub prints : Prints held [] held_then [] printed

-- .. by its exit status; after a failed read or write, or for want of memory, nothing is said
abbrev pub served_as : List ℕ → Option (List ℕ) → Option (List ℕ) → ℕ → Type 0
served_as text held held_then zero = Served text held held_then true
served_as text held held_then (suc zero) = Served text held held_then false
served_as text held held_then n = Unit {0}
