-- Which calls a file of bytes may have, and how long it is then.
use Rattle.std.proofs.Common.{◌≡◌, ℕ, ◌+◌, ◌≤◌, ◌<◌, List, [], ◌∷◌, ◌++◌, length, take, drop, Vec, refl, sym, ap, subst, arith, length-append, length-take-le, length-drop}
use Rattle.std.specs.Prelude.{⊤, Result, Ok, Err, OnOk, OnErr}
use Rattle.std.proofs.lemmas.List.Elements.{All-append, All-take, All-drop}
use Rattle.std.proofs.lemmas.List.{length-take}
use Rattle.std.specs.declared.alloc.Global.{Global}
use Rattle.sled_disk.specs.Disk.{written}
use Rattle.sled_disk.specs.Calls.{seen_after, seen_after_all, IsFile, IsWithin, WritesFit}
use Rattle.sled_disk.specs.declared.memory.Call.{Call}
use Rattle.sled_disk.specs.declared.memory.Call.TheVariants.{Write, Cut, Sync}

-- a call that a file may have of which a read returns this
abbrev pub Fits : Call → List ℕ → Type 0
Fits (Write at v) seen = IsWithin at v.items seen
Fits (Cut n) seen = ⊤
Fits Sync seen = ⊤

-- the same of all calls, the first of them first
abbrev pub FitAll : List Call → List ℕ → Type 0
FitAll [] seen = ⊤
FitAll (call ∷ calls) seen = Fits call seen × FitAll calls (seen_after call seen)

first_fits : (call : Call) (calls : List Call) (seen : List ℕ) → WritesFit (call ∷ calls) seen → Fits call seen
first_fits (Write at v) calls seen each = each [] calls at v refl
first_fits (Cut n) calls seen each = tt
first_fits Sync calls seen each = tt

pub all_fit : (calls : List Call) (seen : List ℕ) → WritesFit calls seen → FitAll calls seen
all_fit [] seen each = tt
all_fit (call ∷ calls) seen each = (first_fits call calls seen each, all_fit calls (seen_after call seen) (λ before after at v is. each (call ∷ before) after at v (ap (λ (l : List Call). call ∷ l) is)))

picked : (before after : List Call) (at : ℕ) (v : Vec ℕ Global) (seen : List ℕ) → FitAll (before ++ Write at v ∷ after) seen → IsWithin at v.items (seen_after_all before seen)
picked [] after at v seen fit = fit.0
picked (call ∷ before) after at v seen fit = picked before after at v (seen_after call seen) fit.1

each_fits : (calls : List Call) (first : List ℕ) → FitAll calls first → WritesFit calls first
each_fits calls first fit before after at v is = picked before after at v first (subst (λ (l : List Call). FitAll l first) is fit)

one_more : (calls : List Call) (call : Call) (seen : List ℕ) → FitAll calls seen → Fits call (seen_after_all calls seen) → FitAll (calls ++ call ∷ []) seen
one_more [] call seen fit last = (last, tt)
one_more (a ∷ calls) call seen fit last = (fit.0, one_more calls call (seen_after a seen) fit.1 last)

pub fits_none : (first : List ℕ) → WritesFit [] first
fits_none first = each_fits [] first tt

pub fits_push : (calls later : List Call) (call : Call) (first : List ℕ) → later ≡ calls ++ call ∷ [] → WritesFit calls first → Fits call (seen_after_all calls first) → WritesFit later first
fits_push calls later call first is each last = each_fits later first (subst (λ (l : List Call). FitAll l first) (sym is) (one_more calls call first (all_fit calls first each) last))

pub sync_fits : {T E : Type 0} → (r : Result T E) (first : List ℕ) (old new : List Call) → OnOk r (new ≡ old ++ Sync ∷ []) → OnErr r (new ≡ old) → WritesFit old first → WritesFit new first
sync_fits (Ok x) first old new ok err each = fits_push old new Sync first ok each tt
sync_fits (Err e) first old new ok err each = subst (λ (l : List Call). WritesFit l first) (sym err) each

-- how long a file is after a write
pub length_written : (at : ℕ) (bytes file : List ℕ) → at ≤ length file → length (written at bytes file) ≡ at + length bytes + length (drop (at + length bytes) file)
length_written at bytes file le =
    let behind = drop (at + length bytes) file in
    omega (arith, length-append (take at file ++ bytes) behind, length-append (take at file) bytes, length-take-le at file le)

-- the file stays one
pub stays : (call : Call) (seen : List ℕ) → Fits call seen → IsFile seen → IsFile (seen_after call seen)
stays (Write at v) seen fit is = record {
  low = All-append (λ b. b < 256) (take at seen ++ v.items) (drop (at + length v.items) seen) (All-append (λ b. b < 256) (take at seen) v.items (All-take (λ b. b < 256) at seen is.low) fit.low) (All-drop (λ b. b < 256) (at + length v.items) seen is.low);
  size = omega (arith, length_written at v.items seen fit.within, length-drop (at + length v.items) seen, fit.size, is.size);
}
stays (Cut n) seen fit is = record { low = All-take (λ b. b < 256) n seen is.low; size = omega (arith, length-take n seen, is.size) }
stays Sync seen fit is = is
