-- One thing is found to be wrong with two files, and no other.
use Rattle.std.proofs.Common.{◌≡◌, ◌⊎◌, inl, inr, ℕ, ◌<◌, List, ◌∷◌, ◌++◌, length, take, refl, sym, ◌∙◌, ap, subst, arith}
use Rattle.std.specs.Prelude.{Result, Ok, Err}
use Rattle.sled_log.specs.Digest.{digest}
use Rattle.sled_log.specs.Log.{log_of, blocks, IsLog}
use Rattle.sled_files.specs.declared.found.OpenError.{OpenError}
use Rattle.sled_files.specs.declared.found.OpenError.TheVariants.{NoMemory, NotAStore, OtherFormat, Decayed, Disk}
use Rattle.sled_files.specs.Header.{format, header}
use Rattle.sled_files.specs.Standing.{all_changes, IsBlank, OfGeneration, IsOlder, Counts}
use Rattle.sled_files.specs.Change.{Durable, AreOfStore}
use Rattle.sled_files.specs.Files.{Files}
use Rattle.sled_store.specs.Store.{Store}
use Rattle.sled_files.specs.Flaws.{HasOtherFormat, HasNoHeader, Breaks, HasNoFlaw, IsFlawOf, IsNoStore, IsFlawOfBoth, is_flaw, format_in, IsCutShort}
use Rattle.sled_files.specs.Opening.{is_why_closed, IsTold, OpensTo, AreOpenable}
use Rattle.sled_files.proofs.Finding.{ok_logs, heads}
use Rattle.sled_files.proofs.Choosing.{file_same, no_blank_log, no_blank_file, not_behind, even_counts, swapped}
use Rattle.sled_files.proofs.Adding.{of_generation}
use Rattle.sled_files.proofs.Headers.{header_begins, header_long, header_format}

ok_or_err : (r : Result (List (List ℕ)) ℕ) (a : List (List ℕ)) (b : ℕ) → r ≡ Ok a → r ≡ Err b → ⊥
ok_or_err r a b one two = let h = sym one ∙ two in cc

err_same : (r : Result (List (List ℕ)) ℕ) (a b : ℕ) → r ≡ Err a → r ≡ Err b → a ≡ b
err_same r a b one two = let h = sym one ∙ two in cc

-- a file that has a flaw is none without one

short_or_whole : (payload first : List ℕ) (generation : ℕ) → IsCutShort payload → payload ≡ header generation ++ first → ⊥
short_or_whole payload first generation short is = go (short (header_begins payload first generation is))
  where
    go : (length payload < 12) ⊎ ((format_in payload ≡ format) × (length payload < 20)) → ⊥
    go (inl lt) = omega (arith, lt, header_long payload first generation is)
    go (inr both) = omega (arith, both.1, header_long payload first generation is)

other_or_whole : {bytes : List ℕ} {other g : ℕ} → HasOtherFormat other bytes → OfGeneration bytes g → ⊥
other_or_whole {bytes} {other} {g} o it =
    let same = heads _ _ _ _ (ok_logs (log_of digest bytes) _ _ o.log it.log) in
    o.is_other (sym o.number ∙ header_format o.payload it.first g same)

pub flaw_or_none : (bytes : List ℕ) (e : OpenError) → IsFlawOf e bytes → HasNoFlaw bytes → ⊥
flaw_or_none bytes NotAStore flaw sound = flaw.0 sound
flaw_or_none bytes (OtherFormat other) flaw (inl blank) = no_blank_log bytes _ _ blank flaw.1.log
flaw_or_none bytes (OtherFormat other) flaw (inr it) = other_or_whole flaw.1 it.1
flaw_or_none bytes (Decayed place) flaw sound = go flaw.1 sound
  where
    go : Breaks place bytes ⊎ ((place ≡ 17) × HasNoHeader bytes) → HasNoFlaw bytes → ⊥
    go (inl b) (inl (inl le)) = omega (arith, b.long, le)
    go (inl b) (inl (inr none)) = ok_or_err _ _ _ none b.log
    go (inl b) (inr it) = ok_or_err _ _ _ it.1.log b.log
    go (inr h) (inl blank) = no_blank_log bytes _ _ blank h.1.log
    go (inr h) (inr it) = short_or_whole h.1.payload it.1.first it.0 h.1.short (heads _ _ _ _ (ok_logs (log_of digest bytes) _ _ h.1.log it.1.log))
flaw_or_none bytes NoMemory flaw sound = flaw
flaw_or_none bytes (Disk e) flaw sound = flaw

-- a file has one flaw

formats_same : {bytes : List ℕ} {a b : ℕ} → HasOtherFormat a bytes → HasOtherFormat b bytes → a ≡ b
formats_same {bytes} one two = sym one.number ∙ ap format_in (heads _ _ _ _ (ok_logs (log_of digest bytes) _ _ one.log two.log)) ∙ two.number

other_or_short : {bytes : List ℕ} {a place : ℕ} → HasOtherFormat a bytes → Breaks place bytes ⊎ ((place ≡ 17) × HasNoHeader bytes) → ⊥
other_or_short {bytes} o (inl b) = ok_or_err _ _ _ o.log b.log
other_or_short {bytes} {a} o (inr h) =
    let same = heads _ _ _ _ (ok_logs (log_of digest bytes) _ _ o.log h.1.log) in
    go same (h.1.short (sym (ap (take 8) same) ∙ o.begins))
  where
    go : o.payload ≡ h.1.payload → (length h.1.payload < 12) ⊎ ((format_in h.1.payload ≡ format) × (length h.1.payload < 20)) → ⊥
    go same (inl lt) = omega (arith, lt, o.long, ap length same)
    go same (inr both) = o.is_other (sym o.number ∙ ap format_in same ∙ both.0)

places_same : {bytes : List ℕ} {a b : ℕ} → Breaks a bytes ⊎ ((a ≡ 17) × HasNoHeader bytes) → Breaks b bytes ⊎ ((b ≡ 17) × HasNoHeader bytes) → a ≡ b
places_same (inl x) (inl y) = err_same _ _ _ x.log y.log
places_same (inl x) (inr h) = absurd (ok_or_err _ _ _ h.1.log x.log)
places_same (inr h) (inl y) = absurd (ok_or_err _ _ _ h.1.log y.log)
places_same (inr h) (inr k) = h.0 ∙ sym k.0

one_flaw : (bytes : List ℕ) (d e : OpenError) → IsFlawOf d bytes → IsFlawOf e bytes → d ≡ e
one_flaw bytes NotAStore NotAStore one two = refl
one_flaw bytes NotAStore (OtherFormat b) one two = absurd (one.1 two.0)
one_flaw bytes NotAStore (Decayed b) one two = absurd (one.1 two.0)
one_flaw bytes NotAStore NoMemory one two = absurd two
one_flaw bytes NotAStore (Disk b) one two = absurd two
one_flaw bytes (OtherFormat a) NotAStore one two = absurd (two.1 one.0)
one_flaw bytes (OtherFormat a) (OtherFormat b) one two = ap (λ (n : ℕ). OtherFormat n) (formats_same one.1 two.1)
one_flaw bytes (OtherFormat a) (Decayed b) one two = absurd (other_or_short one.1 two.1)
one_flaw bytes (OtherFormat a) NoMemory one two = absurd two
one_flaw bytes (OtherFormat a) (Disk b) one two = absurd two
one_flaw bytes (Decayed a) NotAStore one two = absurd (two.1 one.0)
one_flaw bytes (Decayed a) (OtherFormat b) one two = absurd (other_or_short two.1 one.1)
one_flaw bytes (Decayed a) (Decayed b) one two = ap (λ (n : ℕ). Decayed n) (places_same one.1 two.1)
one_flaw bytes (Decayed a) NoMemory one two = absurd two
one_flaw bytes (Decayed a) (Disk b) one two = absurd two
one_flaw bytes NoMemory e one two = absurd one
one_flaw bytes (Disk a) e one two = absurd one

-- two files that have no flaw each have one together

sound_first : (e : OpenError) (first second : List ℕ) → IsFlawOfBoth e first second → HasNoFlaw first
sound_first (Decayed place) first second (inl even) = inr (even.1.generation, even.1.first_is)
sound_first (Decayed place) first second (inr (inl none)) = inr (none.generation, none.is)
sound_first (Decayed place) first second (inr (inr none)) = behind none.behind
  where
    behind : IsBlank first ⊎ IsOlder none.generation first → HasNoFlaw first
    behind (inl blank) = inl blank
    behind (inr o) = inr (o.earlier, o.is)
sound_first NoMemory first second why = absurd why
sound_first NotAStore first second why = absurd why
sound_first (OtherFormat other) first second why = absurd why
sound_first (Disk e) first second why = absurd why

sound_second : (e : OpenError) (first second : List ℕ) → IsFlawOfBoth e first second → HasNoFlaw second
sound_second (Decayed place) first second (inl even) = inr (even.1.generation, even.1.second_is)
sound_second (Decayed place) first second (inr (inr none)) = inr (none.generation, none.is)
sound_second (Decayed place) first second (inr (inl none)) = behind none.behind
  where
    behind : IsBlank second ⊎ IsOlder none.generation second → HasNoFlaw second
    behind (inl blank) = inl blank
    behind (inr o) = inr (o.earlier, o.is)
sound_second NoMemory first second why = absurd why
sound_second NotAStore first second why = absurd why
sound_second (OtherFormat other) first second why = absurd why
sound_second (Disk e) first second why = absurd why

even_or_none : {first second : List ℕ} {place g : ℕ} → OfGeneration first g → OfGeneration second g → IsNoStore place first second → ⊥
even_or_none {first} {second} {place} {g} one two none = go none.behind
  where
    go : IsBlank second ⊎ IsOlder none.generation second → ⊥
    go (inl blank) = no_blank_file two blank
    go (inr o) = omega (arith, (file_same one none.is).0, (file_same two o.is).0, o.below)

gates_same : {bytes : List ℕ} {ps qs : List (List ℕ)} {a b : ℕ} → ps ≡ qs → IsLog digest bytes ps a → IsLog digest bytes qs b → a ≡ b
gates_same is one two = sym one.gate_is ∙ ap (λ (l : List (List ℕ)). length (blocks digest l)) is ∙ two.gate_is

nones_same : {first second : List ℕ} {a b : ℕ} → IsNoStore a first second → IsNoStore b first second → a ≡ b
nones_same {first} one two = gates_same (ok_logs (log_of digest first) _ _ one.is.log two.is.log) one.log two.log

both_same : (first second : List ℕ) (a b : ℕ) → IsFlawOfBoth (Decayed a) first second → IsFlawOfBoth (Decayed b) first second → a ≡ b
both_same first second a b (inl x) (inl y) = x.0 ∙ sym y.0
both_same first second a b (inl x) (inr (inl n)) = absurd (even_or_none x.1.first_is x.1.second_is n)
both_same first second a b (inl x) (inr (inr n)) = absurd (even_or_none x.1.second_is x.1.first_is n)
both_same first second a b (inr (inl n)) (inl y) = absurd (even_or_none y.1.first_is y.1.second_is n)
both_same first second a b (inr (inr n)) (inl y) = absurd (even_or_none y.1.second_is y.1.first_is n)
both_same first second a b (inr (inl n)) (inr (inl m)) = nones_same n m
both_same first second a b (inr (inr n)) (inr (inr m)) = nones_same n m
both_same first second a b (inr (inl n)) (inr (inr m)) = absurd (not_behind n.is m.is n.behind m.behind)
both_same first second a b (inr (inr n)) (inr (inl m)) = absurd (not_behind n.is m.is n.behind m.behind)

together_same : (first second : List ℕ) (d e : OpenError) → IsFlawOfBoth d first second → IsFlawOfBoth e first second → d ≡ e
together_same first second (Decayed a) (Decayed b) one two = ap (λ (n : ℕ). Decayed n) (both_same first second a b one two)
together_same first second (Decayed a) NoMemory one two = absurd two
together_same first second (Decayed a) NotAStore one two = absurd two
together_same first second (Decayed a) (OtherFormat b) one two = absurd two
together_same first second (Decayed a) (Disk b) one two = absurd two
together_same first second NoMemory e one two = absurd one
together_same first second NotAStore e one two = absurd one
together_same first second (OtherFormat a) e one two = absurd one
together_same first second (Disk a) e one two = absurd one

pub flaws_same : (first second : List ℕ) (d e : OpenError) → is_flaw d first second → is_flaw e first second → d ≡ e
flaws_same first second d e (inl one) (inl two) = one_flaw first d e one two
flaws_same first second d e (inl one) (inr (inl two)) = absurd (flaw_or_none first d one two.0)
flaws_same first second d e (inl one) (inr (inr two)) = absurd (flaw_or_none first d one (sound_first e first second two))
flaws_same first second d e (inr (inl one)) (inl two) = absurd (flaw_or_none first e two one.0)
flaws_same first second d e (inr (inl one)) (inr (inl two)) = one_flaw second d e one.1 two.1
flaws_same first second d e (inr (inl one)) (inr (inr two)) = absurd (flaw_or_none second d one.1 (sound_second e first second two))
flaws_same first second d e (inr (inr one)) (inl two) = absurd (flaw_or_none first e two (sound_first d first second one))
flaws_same first second d e (inr (inr one)) (inr (inl two)) = absurd (flaw_or_none second e two.1 (sound_second d first second one))
flaws_same first second d e (inr (inr one)) (inr (inr two)) = together_same first second d e one two

-- what is wrong is told, or a disk refused a call
pub told : (first second : List ℕ) (flaw e : OpenError) → is_flaw flaw first second → is_why_closed e first second → IsTold flaw e
told first second flaw NoMemory is why = inr tt
told first second flaw (Disk e) is why = inr why
told first second flaw NotAStore is why = inl (flaws_same first second NotAStore flaw why.1 is)
told first second flaw (OtherFormat other) is why = inl (flaws_same first second (OtherFormat other) flaw why.1 is)
told first second flaw (Decayed place) is why = inl (flaws_same first second (Decayed place) flaw why.1 is)

-- files with a flaw are not opened

counts_sound : {one other : List ℕ} {k : ℕ} {d : Durable} → Counts one other k d → HasNoFlaw one × HasNoFlaw other
counts_sound {one} {other} {k} c = (inr (k, of_generation c.stands.has), behind c.behind)
  where
    behind : IsBlank other ⊎ IsOlder k other → HasNoFlaw other
    behind (inl blank) = inl blank
    behind (inr o) = inr (o.earlier, o.is)

openable_sound : {first second : List ℕ} → AreOpenable first second → HasNoFlaw first × HasNoFlaw second
openable_sound (inl blanks) = (inl blanks.first_is, inl blanks.second_is)
openable_sound {first} {second} (inr it) = go it.1.which
  where
    go : Counts first second it.1.generation it.0 ⊎ Counts second first it.1.generation it.0 → HasNoFlaw first × HasNoFlaw second
    go (inl c) = counts_sound c
    go (inr c) = let both = counts_sound c in (both.1, both.0)

unmade_counts : {one other : List ℕ} {place : ℕ} → IsNoStore place one other → (k : ℕ) (d : Durable) → Counts one other k d ⊎ Counts other one k d → ⊥
unmade_counts n k d (inl c) =
    let t = file_same n.is (of_generation c.stands.has) in
    let read = ap (λ (l : List ℕ). all_changes (l ∷ n.is.others)) t.1 ∙ ap (λ (l : List (List ℕ)). all_changes (c.stands.has.first ∷ l)) t.2 ∙ c.stands.has.decoded in
    n.unmade c.stands.changes read (subst (λ (x : Durable). AreOfStore c.stands.changes x) (sym c.stands.makes) c.stands.made)
unmade_counts n k d (inr c) = not_behind n.is (of_generation c.stands.has) n.behind c.behind

even_both : {first second : List ℕ} {g : ℕ} → OfGeneration first g → OfGeneration second g → (k : ℕ) (d : Durable) → Counts first second k d ⊎ Counts second first k d → ⊥
even_both one two k d (inl c) = even_counts one two k d c
even_both one two k d (inr c) = even_counts two one k d c

both_unopened : (first second : List ℕ) (e : OpenError) → IsFlawOfBoth e first second → AreOpenable first second → ⊥
both_unopened first second (Decayed place) (inl even) (inl blanks) = no_blank_file even.1.first_is blanks.first_is
both_unopened first second (Decayed place) (inl even) (inr it) = even_both even.1.first_is even.1.second_is it.1.generation it.0 it.1.which
both_unopened first second (Decayed place) (inr (inl n)) (inl blanks) = no_blank_file n.is blanks.first_is
both_unopened first second (Decayed place) (inr (inl n)) (inr it) = unmade_counts n it.1.generation it.0 it.1.which
both_unopened first second (Decayed place) (inr (inr n)) (inl blanks) = no_blank_file n.is blanks.second_is
both_unopened first second (Decayed place) (inr (inr n)) (inr it) = unmade_counts n it.1.generation it.0 (swapped it.1.which)
both_unopened first second NoMemory why are = why
both_unopened first second NotAStore why are = why
both_unopened first second (OtherFormat other) why are = why
both_unopened first second (Disk e) why are = why

pub flaw_unopened : (first second : List ℕ) (e : OpenError) → is_flaw e first second → AreOpenable first second → ⊥
flaw_unopened first second e (inl one) are = flaw_or_none first e one (openable_sound are).0
flaw_unopened first second e (inr (inl two)) are = flaw_or_none second e two.1 (openable_sound are).1
flaw_unopened first second e (inr (inr both)) are = both_unopened first second e both are

-- what is opened is openable
pub opened_openable : {D : Type 0} {seen : D → List ℕ} {may_leave : D → List ℕ → Type 0} {first second : List ℕ} {files : Files D} {s : Store} → OpensTo seen may_leave first second files s → AreOpenable first second
opened_openable (inl r) = inr (r.durable, r.stand)
opened_openable (inr b) = inl b.blanks
