-- Lines of a session, one by one.
use Rattle.std.proofs.Common.{◌≡◌, ℕ, ◌+◌, List, [], ◌++◌, append_assoc, Option, Some, None, IfSome, sym, subst, ◌∙◌}
use Rattle.std.proofs.lemmas.Option.{IfSome_then}
use Rattle.sled_store.specs.Store.{Store}
use Rattle.sled_model.specs.Maps.{Merge}
use Rattle.line_words.specs.Print.{Prints, bad_line}
use Rattle.line_sessions.specs.Session.{Obeys}
use Rattle.line_sessions.specs.Serve.{lines_of, crash_of, Lives, AtEnd, AtBadLine, AtCrash, Obeying, Place, told_of, RunsOn, RunsFrom}
use Rattle.line_sessions.specs.theory.Serve.{BeginsSo, Took, LivesFrom}
use Rattle.line_words.specs.declared.command.Command.{Command}
use Rattle.line_words.specs.declared.command.Command.TheVariants as command
use Rattle.line_sessions.specs.declared.lines.End.{End}
use Rattle.line_sessions.specs.declared.lines.End.TheVariants as end
use Rattle.line_sessions.specs.declared.session.Session.{Session}
use Rattle.line_sessions.proofs.Printing.{prints_then}

module _ {P M : Type 0} (store : P → Store) (flush_number : P → ℕ) (meant : M → Merge) where
  end_by : (before after : Option (List ℕ)) (n m : ℕ) (held held_then : Option (List ℕ)) (gathered gathered_then : List ℕ) (s : Session P M) → m ≡ n → IfSome before (λ text. (text ≡ []) × (after ≡ Some [])) → Prints held gathered held_then gathered_then []
      → IfSome before (RunsOn store flush_number meant s (record { number = n; left = before; held = held; gathered = gathered }) end.NoLine s (record { number = m; left = after; held = held_then; gathered = gathered_then }))
  end_by None after n m held held_then gathered gathered_then s same none prints = tt
  end_by (Some text) after n m held held_then gathered gathered_then s same none prints = record {
    texts = [];
    rest = [];
    lives = subst (λ k. Lives store flush_number meant n s (lines_of text) [] end.NoLine k s []) (sym same) (subst (λ t. Lives store flush_number meant n s (lines_of t) [] end.NoLine n s []) (sym none.0) AtEnd);
    left = none.1;
    prints = prints;
  }

  -- there are no more lines
  pub runs_end : (s : Session P M) (here there : Place) → (there.number ≡ here.number) × IfSome here.left (λ text. (text ≡ []) × (there.left ≡ Some [])) → Prints here.held here.gathered there.held there.gathered []
      → RunsFrom store flush_number meant s here end.NoLine s there
  runs_end s here there none prints = end_by here.left there.left here.number there.number here.held there.held here.gathered there.gathered s none.0 none.1 prints

  bad_by : (before after : Option (List ℕ)) (n m : ℕ) (held held_then : Option (List ℕ)) (gathered gathered_then : List ℕ) (s : Session P M) → m ≡ n + 1 → IfSome before (λ text. BeginsSo text None after) → Prints held gathered held_then gathered_then []
      → IfSome before (RunsOn store flush_number meant s (record { number = n; left = before; held = held; gathered = gathered }) end.BadLine s (record { number = m; left = after; held = held_then; gathered = gathered_then }))
  bad_by None after n m held held_then gathered gathered_then s next begins prints = tt
  bad_by (Some text) after n m held held_then gathered gathered_then s next begins prints = record {
    texts = [];
    rest = begins.rest;
    lives = subst (λ k. Lives store flush_number meant n s (lines_of text) (bad_line k) end.BadLine k s (lines_of begins.rest)) (sym next)
        (subst (λ ls. Lives store flush_number meant n s ls (bad_line (n + 1)) end.BadLine (n + 1) s (lines_of begins.rest)) (sym begins.lines) (AtBadLine begins.reads));
    left = begins.left;
    prints = prints;
  }

  -- a line cannot be read
  pub runs_bad : (s : Session P M) (here there : Place) → Took here.left there.left here.number there.number None → Prints here.held here.gathered there.held there.gathered []
      → RunsFrom store flush_number meant s here end.BadLine s there
  runs_bad s here there took prints = bad_by here.left there.left here.number there.number here.held there.held here.gathered there.gathered s took.number took.is prints

  crash_by : (before after : Option (List ℕ)) (n m keep : ℕ) (held held_then : Option (List ℕ)) (gathered gathered_then : List ℕ) (s : Session P M) → m ≡ n + 1 → IfSome before (λ text. BeginsSo text (Some (command.Crash keep)) after) → Prints held gathered held_then gathered_then []
      → IfSome before (RunsOn store flush_number meant s (record { number = n; left = before; held = held; gathered = gathered }) (end.Crash keep) s (record { number = m; left = after; held = held_then; gathered = gathered_then }))
  crash_by None after n m keep held held_then gathered gathered_then s next begins prints = tt
  crash_by (Some text) after n m keep held held_then gathered gathered_then s next begins prints = record {
    texts = [];
    rest = begins.rest;
    lives = subst (λ k. Lives store flush_number meant n s (lines_of text) [] (end.Crash keep) k s (lines_of begins.rest)) (sym next)
        (subst (λ ls. Lives store flush_number meant n s ls [] (end.Crash keep) (n + 1) s (lines_of begins.rest)) (sym begins.lines) (AtCrash begins.reads));
    left = begins.left;
    prints = prints;
  }

  -- a line is a crash
  pub runs_crash : (keep : ℕ) (s : Session P M) (here there : Place) → Took here.left there.left here.number there.number (Some (command.Crash keep)) → Prints here.held here.gathered there.held there.gathered []
      → RunsFrom store flush_number meant s here (end.Crash keep) s there
  runs_crash keep s here there took prints = crash_by here.left there.left here.number there.number keep here.held there.held here.gathered there.gathered s took.number took.is prints

  command_by : (before after : Option (List ℕ)) (n k : ℕ) (held held_then : Option (List ℕ)) (gathered gathered_then : List ℕ) (c : Command) (s next last : Session P M) (e : End) (there : Place) → crash_of c ≡ None → k ≡ n + 1
      → IfSome before (λ text. BeginsSo text (Some c) after) → Obeys store flush_number meant s c next held gathered held_then gathered_then
      → IfSome after (RunsOn store flush_number meant next (record { number = k; left = after; held = held_then; gathered = gathered_then }) e last there)
      → IfSome before (RunsOn store flush_number meant s (record { number = n; left = before; held = held; gathered = gathered }) e last there)
  command_by None after n k held held_then gathered gathered_then c s next last e there stays number begins obeyed others = tt
  command_by (Some text) after n k held held_then gathered gathered_then c s next last e there stays number begins obeyed others =
      let on : RunsOn store flush_number meant next (record { number = k; left = after; held = held_then; gathered = gathered_then }) e last there begins.rest =
      subst (λ l. IfSome l (RunsOn store flush_number meant next (record { number = k; left = after; held = held_then; gathered = gathered_then }) e last there)) begins.left others in
      let told = told_of e there.number in
      let from : Lives store flush_number meant (n + 1) next (lines_of begins.rest) (on.texts ++ told) e there.number last (lines_of on.rest) =
      subst (λ i. Lives store flush_number meant i next (lines_of begins.rest) (on.texts ++ told) e there.number last (lines_of on.rest)) number on.lives in
      record {
        texts = obeyed.text ++ on.texts;
        rest = on.rest;
        lives = subst (λ t. Lives store flush_number meant n s (lines_of text) t e there.number last (lines_of on.rest)) (sym (append_assoc obeyed.text on.texts told))
            (subst (λ ls. Lives store flush_number meant n s ls (obeyed.text ++ (on.texts ++ told)) e there.number last (lines_of on.rest)) (sym begins.lines) (Obeying c obeyed.text begins.reads stays obeyed.does from));
        left = on.left;
        prints = prints_then _ _ _ _ _ _ _ _ obeyed.prints on.prints;
      }

  obeyed_from : (s next : Session P M) (c : Command) (a b d : Option (List ℕ)) (o p q : List ℕ) → Prints a o b p [] → Obeys store flush_number meant s c next b p d q → Obeys store flush_number meant s c next a o d q
  obeyed_from s next c a b d o p q kept obeyed = record { text = obeyed.text; does = obeyed.does; prints = prints_then a b d o p q [] obeyed.text kept obeyed.prints }

  -- a line is read as a command and run, and then the others are
  pub runs_command : (c : Command) (s next last : Session P M) (e : End) (here then there : Place) (held : Option (List ℕ)) (gathered : List ℕ) → (crash_of c ≡ None) × Took here.left then.left here.number then.number (Some c)
      → Prints here.held here.gathered held gathered [] → Obeys store flush_number meant s c next held gathered then.held then.gathered
      → RunsFrom store flush_number meant next then e last there → RunsFrom store flush_number meant s here e last there
  runs_command c s next last e here then there held gathered took kept obeyed others =
      command_by here.left then.left here.number then.number here.held then.held here.gathered then.gathered c s next last e there took.0 took.1.number took.1.is
      (obeyed_from s next c here.held held then.held here.gathered gathered then.gathered kept obeyed) others

  -- what is said of how lines end comes behind what they print
  pub lives_told : (s last : Session P M) (e : End) (here mid there : Place) → RunsFrom store flush_number meant s here e last mid → there.number ≡ mid.number → there.left ≡ mid.left
      → Prints mid.held mid.gathered there.held there.gathered (told_of e mid.number) → LivesFrom store flush_number meant s here e last there
  lives_told s last e here mid there runs number left told = IfSome_then here.left runs (λ text on. record {
    texts = on.texts ++ told_of e mid.number;
    rest = on.rest;
    lives = subst (λ k. Lives store flush_number meant here.number s (lines_of text) (on.texts ++ told_of e mid.number) e k last (lines_of on.rest)) (sym number) on.lives;
    left = left ∙ on.left;
    prints = prints_then _ _ _ _ _ _ _ _ on.prints told;
  })
