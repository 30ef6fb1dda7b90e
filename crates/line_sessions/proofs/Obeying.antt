-- What a session does at a command.
use Rattle.std.proofs.Common.{◌≡◌, ℕ, false, List, [], ◌++◌, append-nil, Option, Result, Ok, Err, OnOk, refl, sym, subst, ap, ◌∙◌, inl, inr}
use Rattle.sled_nodes.specs.Order.{Key}
use Rattle.sled_store.specs.Store.{Store, now}
use Rattle.sled_nodes.specs.declared.error.Error.{Error}
use Rattle.sled_model.specs.Maps.{Merge}
use Rattle.sled_model.specs.declared.outcome.Outcome.{Outcome}
use Rattle.tree_laws.specs.Contents.{trees_of}
use Rattle.tree_pages.specs.Export.{collections}
use Rattle.sled.specs.Export.{RefusesExport}
use Rattle.line_words.specs.Print.{Prints, outcome_line, refused_line, dump_text}
use Rattle.line_sessions.specs.Session.{slot_at, acts_at, performs, current_after, opened_or, obeys, Obeys}
use Rattle.line_sessions.specs.theory.Session.{ActsAndShows, Shows}
use Rattle.line_sessions.specs.declared.session.Act.{Act}
use Rattle.line_sessions.specs.declared.session.Act.TheVariants as act
use Rattle.line_words.specs.declared.command.Command.{Command}
use Rattle.line_words.specs.declared.command.Command.TheVariants as command
use Rattle.line_words.specs.declared.print.Shown.{Shown}
use Rattle.line_sessions.specs.declared.session.Session.{Session}
use Rattle.line_sessions.proofs.Printing.{prints_then, prints_onto}

module _ {P M : Type 0} (store : P → Store) (flush_number : P → ℕ) (meant : M → Merge) where
  obeys_by : (old : Session P M) (c : Command) (show : Shown) (o : Outcome) (new : Session P M) → performs store flush_number meant old c show o new → new.tree ≡ current_after c old.tree o → obeys store flush_number meant old c (outcome_line show o) new
  obeys_by old (command.Crash keep) show o new does tree = absurd does
  obeys_by old command.Dump show o new does tree = absurd does
  obeys_by old other show o new does tree = (show, o, does, tree, refl)

  -- a command came out so, and its line is gathered
  pub obeyed : (old : Session P M) (c : Command) (show : Shown) (o : Outcome) (new : Session P M) (held : Option (List ℕ)) (gathered gathered_then : List ℕ) → performs store flush_number meant old c show o new → new.tree ≡ current_after c old.tree o
      → gathered_then ≡ gathered ++ outcome_line show o → Obeys store flush_number meant old c new held gathered held gathered_then
  obeyed old c show o new held gathered gathered_then does tree is = record {
    text = outcome_line show o;
    does = obeys_by old c show o new does tree;
    prints = prints_onto held gathered gathered_then (outcome_line show o) is;
  }

  -- the same of its line, if it could be gathered
  pub shown : {T E : Type 0} (old : Session P M) (c : Command) (show : Shown) (o : Outcome) (new : Session P M) (gathered gathered_then : List ℕ) (r : Result T E) → performs store flush_number meant old c show o new → new.tree ≡ current_after c old.tree o
      → OnOk r (gathered_then ≡ gathered ++ outcome_line show o) → OnOk r (Shows store flush_number meant old c new gathered gathered_then)
  shown old c show o new gathered gathered_then (Ok done) does tree is = record { show = show; outcome = o; performs = does; tree = tree; line = is }
  shown old c show o new gathered gathered_then (Err e) does tree is = tt

  -- the command is this one
  pub obeyed_as : {T E : Type 0} (old : Session P M) (c d : Command) (new : Session P M) (held : Option (List ℕ)) (gathered gathered_then : List ℕ) (r : Result T E) → c ≡ d
      → OnOk r (Shows store flush_number meant old d new gathered gathered_then) → OnOk r (Obeys store flush_number meant old c new held gathered held gathered_then)
  obeyed_as old c d new held gathered gathered_then (Ok done) same did = subst (λ x. Obeys store flush_number meant old x new held gathered held gathered_then) (sym same) (obeyed old d did.show did.outcome new held gathered gathered_then did.performs did.tree did.line)
  obeyed_as old c d new held gathered gathered_then (Err e) same did = tt

  -- the same of a command that is this one, if its line could be gathered
  pub obeyed_shown : {T E : Type 0} (old : Session P M) (c d : Command) (show : Shown) (o : Outcome) (new : Session P M) (held : Option (List ℕ)) (gathered gathered_then : List ℕ) (r : Result T E) → c ≡ d → performs store flush_number meant old d show o new
      → new.tree ≡ current_after d old.tree o → OnOk r (gathered_then ≡ gathered ++ outcome_line show o) → OnOk r (Obeys store flush_number meant old c new held gathered held gathered_then)
  obeyed_shown old c d show o new held gathered gathered_then (Ok done) same does tree is = subst (λ x. Obeys store flush_number meant old x new held gathered held gathered_then) (sym same) (obeyed old d show o new held gathered gathered_then does tree is)
  obeyed_shown old c d show o new held gathered gathered_then (Err e) same does tree is = tt

  -- something is done in a slot, and its line is gathered, if it could be
  pub acted_shown : {T E : Type 0} (old : Session P M) (a : Act) (n : ℕ) (show : Shown) (o : Outcome) (new : Session P M) (gathered gathered_then : List ℕ) (r : Result T E) → acts_at store flush_number meant old.machine a (slot_at old.slots.items n) show o new.machine
      → new.tree ≡ old.tree → new.slots ≡ old.slots → OnOk r (gathered_then ≡ gathered ++ outcome_line show o) → OnOk r (ActsAndShows store flush_number meant old a n new gathered gathered_then)
  acted_shown old a n show o new gathered gathered_then (Ok done) acts tree slots is = record { show = show; outcome = o; acts = acts; tree = tree; slots = slots; line = is }
  acted_shown old a n show o new gathered gathered_then (Err e) acts tree slots is = tt

  pub obeyed_step : {T E : Type 0} (old : Session P M) (c : Command) (n : ℕ) (new : Session P M) (held : Option (List ℕ)) (gathered gathered_then : List ℕ) (r : Result T E) → c ≡ command.Step n
      → OnOk r (ActsAndShows store flush_number meant old act.Step n new gathered gathered_then) → OnOk r (Obeys store flush_number meant old c new held gathered held gathered_then)
  obeyed_step old c n new held gathered gathered_then (Ok done) same did = subst (λ x. Obeys store flush_number meant old x new held gathered held gathered_then) (sym same) (obeyed old (command.Step n) did.show did.outcome new held gathered gathered_then (did.acts, did.slots) did.tree did.line)
  obeyed_step old c n new held gathered gathered_then (Err e) same did = tt

  pub obeyed_finish : {T E : Type 0} (old : Session P M) (c : Command) (n : ℕ) (new : Session P M) (held : Option (List ℕ)) (gathered gathered_then : List ℕ) (r : Result T E) → c ≡ command.Finish n
      → OnOk r (ActsAndShows store flush_number meant old act.Finish n new gathered gathered_then) → OnOk r (Obeys store flush_number meant old c new held gathered held gathered_then)
  obeyed_finish old c n new held gathered gathered_then (Ok done) same did = subst (λ x. Obeys store flush_number meant old x new held gathered held gathered_then) (sym same) (obeyed old (command.Finish n) did.show did.outcome new held gathered gathered_then (did.acts, did.slots) did.tree did.line)
  obeyed_finish old c n new held gathered gathered_then (Err e) same did = tt

  pub obeyed_abandon : {T E : Type 0} (old : Session P M) (c : Command) (n : ℕ) (new : Session P M) (held : Option (List ℕ)) (gathered gathered_then : List ℕ) (r : Result T E) → c ≡ command.Abandon n
      → OnOk r (ActsAndShows store flush_number meant old act.Abandon n new gathered gathered_then) → OnOk r (Obeys store flush_number meant old c new held gathered held gathered_then)
  obeyed_abandon old c n new held gathered gathered_then (Ok done) same did = subst (λ x. Obeys store flush_number meant old x new held gathered held gathered_then) (sym same) (obeyed old (command.Abandon n) did.show did.outcome new held gathered gathered_then (did.acts, did.slots) did.tree did.line)
  obeyed_abandon old c n new held gathered gathered_then (Err e) same did = tt

  -- the tree of a name is opened, and its line is gathered
  pub opened_shown : (old : Session P M) (name : Key) (show : Shown) (o : Outcome) (middle new : Session P M) (gathered gathered_then : List ℕ) → performs store flush_number meant old (command.OpenTree name) show o middle
      → middle.tree ≡ old.tree → new ≡ record middle { tree = opened_or middle.tree o } → gathered_then ≡ gathered ++ outcome_line show o → Shows store flush_number meant old (command.OpenTree name) new gathered gathered_then
  opened_shown old name show o middle new gathered gathered_then does same follows is = record {
    show = show;
    outcome = o;
    performs = subst (performs store flush_number meant old (command.OpenTree name) show o) (sym follows) does;
    tree = ap (λ (s : Session P M). s.tree) follows ∙ ap (λ t. opened_or t o) same;
    line = is;
  }

  -- all pairs are printed
  pub obeyed_all : (s : Session P M) (held held_then : Option (List ℕ)) (gathered gathered_then text : List ℕ) → (now (store s.machine.db.pages)).in_group ≡ false
      → text ≡ dump_text (collections (trees_of (now (store s.machine.db.pages))) s.machine.db.trees) → Prints held gathered held_then gathered_then text → Obeys store flush_number meant s command.Dump s held gathered held_then gathered_then
  obeyed_all s held held_then gathered gathered_then text ends is prints = record {
    text = text;
    does = (refl, inl (ends, is));
    prints = prints;
  }

  -- the same, if they could be printed
  pub all_shown : {T E : Type 0} (s : Session P M) (held held_then : Option (List ℕ)) (gathered gathered_then text : List ℕ) (r : Result T E) → (now (store s.machine.db.pages)).in_group ≡ false
      → text ≡ dump_text (collections (trees_of (now (store s.machine.db.pages))) s.machine.db.trees) → OnOk r (Prints held gathered held_then gathered_then text) → OnOk r (Obeys store flush_number meant s command.Dump s held gathered held_then gathered_then)
  all_shown s held held_then gathered gathered_then text (Ok done) ends is prints = obeyed_all s held held_then gathered gathered_then text ends is prints
  all_shown s held held_then gathered gathered_then text (Err e) ends is prints = tt

  -- why they are not is printed
  pub obeyed_refusal : (s : Session P M) (e : Error) (held : Option (List ℕ)) (gathered gathered_then : List ℕ) → RefusesExport (store s.machine.db.pages) e → gathered_then ≡ gathered ++ refused_line e
      → Obeys store flush_number meant s command.Dump s held gathered held gathered_then
  obeyed_refusal s e held gathered gathered_then refuses is = record {
    text = refused_line e;
    does = (refl, inr (e, refuses, refl));
    prints = prints_onto held gathered gathered_then (refused_line e) is;
  }

  -- the same, if that could be printed
  pub refusal_shown : {T E : Type 0} (s : Session P M) (e : Error) (held : Option (List ℕ)) (gathered gathered_then : List ℕ) (r : Result T E) → RefusesExport (store s.machine.db.pages) e → OnOk r (gathered_then ≡ gathered ++ refused_line e)
      → OnOk r (Obeys store flush_number meant s command.Dump s held gathered held gathered_then)
  refusal_shown s e held gathered gathered_then (Ok done) refuses is = obeyed_refusal s e held gathered gathered_then refuses is
  refusal_shown s e held gathered gathered_then (Err f) refuses is = tt

  -- what is printed is written
  obeyed_written : (old new : Session P M) (c : Command) (a b d : Option (List ℕ)) (o p q : List ℕ) → Obeys store flush_number meant old c new a o b p → Prints b p d q [] → Obeys store flush_number meant old c new a o d q
  obeyed_written old new c a b d o p q obeys prints = record {
    text = obeys.text;
    does = obeys.does;
    prints = subst (Prints a o d q) (append-nil obeys.text) (prints_then a b d o p q obeys.text [] obeys.prints prints);
  }

  pub written_after : {T E : Type 0} (old new : Session P M) (c : Command) (a b d : Option (List ℕ)) (o p q : List ℕ) (r : Result T E) → Obeys store flush_number meant old c new a o b p → OnOk r (Prints b p d q []) → OnOk r (Obeys store flush_number meant old c new a o d q)
  written_after old new c a b d o p q (Ok done) obeys prints = obeyed_written old new c a b d o p q obeys prints
  written_after old new c a b d o p q (Err e) obeys prints = tt
