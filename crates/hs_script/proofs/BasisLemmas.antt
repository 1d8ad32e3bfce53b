-- What is made of a file is one stream or one refusal.
use Rattle.std.proofs.Common.{◌≡◌, ◌≢◌, ℕ, Bool, true, false, List, Option, None, Some, refl, sym, ap, ◌∙◌, subst, arith}
use Rattle.std.specs.Option.{unwrap_or}
use Rattle.hs_kept.specs.KeptRegions.{IsWellKept}
use Rattle.hs_dbfile.specs.States.{State}
use Rattle.hs_dbfile.proofs.StateLemmas.{same_form}
use Rattle.hs_text.specs.declared.reply_lines.Word.{Word}
use Rattle.hs_text.specs.declared.reply_lines.Word.TheVariants as word
use Rattle.hs_script.specs.Bases.{Basis, Stream, Of, Foreign, File, Untold, Missing, Saved, Bytes, IsAcceptedFile, RefusesBytes, bad_length, bad_form, other_version, other_digest, bad_region, Refuses, no_file, bad_bytes, Gives, gives_saved, gives_traced, gives_foreign, Keeps, keeps_history, keeps_region, Puts, puts_untold, puts_told, Shows, as_told, anything}
use Rattle.hs_script.specs.Laws.{is_memory, is_full}

version_of : State → ℕ
version_of s = s.version

digest_of : State → List ℕ
digest_of s = s.digest

region_of : State → List ℕ
region_of s = s.region

module _ {basis : Basis} {b : List ℕ} where
  pub word_once : {v w : Word} → RefusesBytes basis b v → RefusesBytes basis b w → v ≡ w
  unfolding version_of digest_of
  word_once (bad_length p) (bad_length q) = refl
  word_once (bad_length p) (bad_form q) = refl
  word_once (bad_length p) (other_version n s h) = absurd (omega (arith, p, s))
  word_once (bad_length p) (other_digest s h) = absurd (omega (arith, p, s))
  word_once (bad_length p) (bad_region r s file bad) = refl
  word_once (bad_form p) (bad_length q) = refl
  word_once (bad_form p) (bad_form q) = refl
  word_once (bad_form p) (other_version n s h) = absurd (p h.state h.form)
  word_once (bad_form p) (other_digest s h) = absurd (p h.state h.form)
  word_once (bad_form p) (bad_region r s file bad) = refl
  word_once (other_version n s h) (bad_length q) = absurd (omega (arith, q, s))
  word_once (other_version n s h) (bad_form q) = absurd (q h.state h.form)
  word_once (other_version n s h) (other_version m t k) = refl
  word_once (other_version n s h) (other_digest t k) = absurd (h.other (sym h.told ∙ (ap version_of (same_form h.form k.form) ∙ k.same)))
  word_once (other_version n s h) (bad_region r t file bad) = absurd (h.other (sym h.told ∙ ap version_of (same_form h.form file)))
  word_once (other_digest s h) (bad_length q) = absurd (omega (arith, q, s))
  word_once (other_digest s h) (bad_form q) = absurd (q h.state h.form)
  word_once (other_digest s h) (other_version m t k) = absurd (k.other (sym k.told ∙ (ap version_of (same_form k.form h.form) ∙ h.same)))
  word_once (other_digest s h) (other_digest t k) = refl
  word_once (other_digest s h) (bad_region r t file bad) = absurd (h.other (ap digest_of (same_form h.form file)))
  word_once (bad_region r s file bad) (bad_length q) = refl
  word_once (bad_region r s file bad) (bad_form q) = refl
  word_once (bad_region r s file bad) (other_version m t k) = absurd (k.other (sym k.told ∙ ap version_of (same_form k.form file)))
  word_once (bad_region r s file bad) (other_digest t k) = absurd (k.other (ap digest_of (same_form k.form file)))
  word_once (bad_region r s file bad) (bad_region r' s' file' bad') = refl

  pub never_both : {w : Word} {region : List ℕ} → RefusesBytes basis b w → IsAcceptedFile basis b region → ⊥
  unfolding version_of digest_of region_of
  never_both (bad_length p) a = let short = a.short in omega (arith, p, short)
  never_both (bad_form p) a = p _ a.file
  never_both (other_version n s h) a = h.other (sym h.told ∙ ap version_of (same_form h.form a.file))
  never_both (other_digest s h) a = h.other (ap digest_of (same_form h.form a.file))
  never_both (bad_region r s file bad) a = bad (subst (IsWellKept basis.plan) (ap region_of (same_form a.file file)) a.well)

  pub region_once : {x y : List ℕ} → IsAcceptedFile basis b x → IsAcceptedFile basis b y → x ≡ y
  unfolding region_of
  region_once p q = ap region_of (same_form p.file q.file)

module _ {basis : Basis} where
  pub refuses_once : {f : File} {v w : Word} → Refuses basis f v → Refuses basis f w → v ≡ w
  refuses_once no_file no_file = refl
  refuses_once (bad_bytes p) (bad_bytes q) = word_once p q

  pub refuses_never : {f : File} {w : Word} {s : Stream} → Refuses basis f w → Gives basis f s → ⊥
  refuses_never {s = s} no_file gives = elim gives [ ]
  refuses_never (bad_bytes p) (gives_traced o a r) = never_both p a
  refuses_never (bad_bytes p) (gives_foreign o a) = never_both p a

  pub gives_once : {f : File} {s t : Stream} → Gives basis f s → Gives basis f t → s ≡ t
  gives_once gives_saved gives_saved = refl
  gives_once (gives_traced {h = h} o a r) (gives_traced {h = g} p b q) = ap Of (ap (λ x. unwrap_or x h) (sym o ∙ p))
  gives_once (gives_traced {h = h} o a r) (gives_foreign p b) = let e : Some h ≡ None = sym o ∙ p in cc (e)
  gives_once (gives_foreign o a) (gives_traced {h = h} p b q) = let e : Some h ≡ None = sym p ∙ o in cc (e)
  gives_once (gives_foreign o a) (gives_foreign p b) = ap Foreign (region_once a b)

  -- the words of refusals
  pub not_memory : {f : File} {w : Word} → Refuses basis f w → is_memory w ≡ false
  not_memory no_file = refl
  not_memory (bad_bytes (bad_length p)) = refl
  not_memory (bad_bytes (bad_form p)) = refl
  not_memory (bad_bytes (other_version n s h)) = refl
  not_memory (bad_bytes (other_digest s h)) = refl
  not_memory (bad_bytes (bad_region r s file bad)) = refl

  -- ---- files

  keeps_once : {s : Stream} {x y : File} → Keeps basis s x → Keeps basis s y → x ≡ y
  keeps_once keeps_history keeps_history = refl
  keeps_once (keeps_region p) (keeps_region q) = ap Bytes (p.whole ∙ sym q.whole)

  pub puts_once : {s : Stream} {x y z w : File} → Puts basis s x z → Puts basis s y w → z ≢ Untold → w ≢ Untold → z ≡ w
  puts_once puts_untold q told told' = absurd (told refl)
  puts_once (puts_told a k) puts_untold told told' = absurd (told' refl)
  puts_once (puts_told a k) (puts_told b l) told told' = keeps_once k l

  pub puts_before : {s : Stream} {x y : File} → Puts basis s x y → y ≢ Untold → x ≢ Untold
  puts_before puts_untold told = told
  puts_before (puts_told a k) told = a

pub shows_told : {f g : File} → Shows f g → f ≢ Untold → g ≡ f
shows_told as_told told = refl
shows_told anything told = absurd (told refl)
