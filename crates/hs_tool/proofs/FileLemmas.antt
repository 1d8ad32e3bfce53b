-- Saves and expansions: what they make of the machine's streams and files.
use Rattle.std.proofs.Common.{◌≡◌, ◌≢◌, ◌⊎◌, ℕ, zero, suc, ◌+◌, ◌^◌, ◌<◌, ◌≤◌, Bool, true, false, inl, inr, List, [], ◌∷◌, length, replicate, bytes_eq, Option, None, Some, refl, sym, ap, ◌∙◌, subst, arith, if◌then◌else◌}
use Rattle.std.proofs.lemmas.List.{length-replicate}
use Rattle.std.proofs.lemmas.Slice.Eq.{bytes_eq-Decides}
use Rattle.std.specs.Str.{IsAscii}
use Rattle.std.proofs.lemmas.Str.Ascii.{IsAscii-nil, IsAscii-cons}
use Rattle.hs_base.specs.Lists.{Each}
use Rattle.hs_kept.specs.KeptRegions.{IsKeptRegion, IsWellKept}
use Rattle.hs_kept.specs.Packing.{packed_size}
use Rattle.hs_kept.proofs.KeptLemmas.{kept-no-larger, sizes-once}
use Rattle.hs_kept.proofs.PackingLemmas.{packings-sized}
use Rattle.hs_outside.specs.Store.{Told, untold, lacks, holds, told_put, IsFile, IsLonger, IsMissing, PutsOrHides}
use Rattle.hs_dbfile.specs.States.{IsStateFile}
use Rattle.hs_dbfile.proofs.StateLemmas.{same_form, states_are_one, states_read_once}
use Rattle.hs_text.specs.Commands.{IsNameByte}
use Rattle.hs_text.specs.declared.commands.Verb.TheVariants as verb
use Rattle.hs_text.specs.declared.reply_lines.Word.{Word}
use Rattle.hs_text.specs.declared.reply_lines.Word.TheVariants as word
use Rattle.hs_text.specs.declared.reply_lines.Reply.{Reply}
use Rattle.hs_text.specs.declared.reply_lines.Reply.TheVariants.{Done, No}
use Rattle.hs_compile.specs.Databases.{Compiled, packing_of}
use Rattle.hs_stream.specs.declared.fault.ExpandFault.{ExpandFault}
use Rattle.hs_stream.specs.declared.fault.ExpandFault.TheVariants as fault
use Rattle.hs_stream.specs.declared.stream.Stream.{Stream}
use Rattle.hs_stream.specs.Leading.{IsBehind}
use Rattle.hs_stream.specs.Saving as saving
use Rattle.hs_stream.specs.Saving.{IsExpanded, IsExpandFaultOf, IsSaved}
use Rattle.hs_stream.specs.Streams.{IsStreamOf, region_of}
use Rattle.hs_stream.proofs.PackedLemmas.{kept-exact}
use Rattle.hs_stream.proofs.SavingLemmas.{histories-taken, saved-taken}
use Rattle.hs_script.specs.Actions.{Action, Save, Expand, name_of}
use Rattle.hs_script.specs.Bases.{Basis, IsSavedBy, File, Untold, Missing, Saved, Bytes, Stream as Known, Of, Foreign, Shows, as_told, anything, Gives, Refuses, Keeps, Puts, IsAcceptedFile, most_state, state_size}
use Rattle.hs_script.specs.Bases as bases
use Rattle.hs_script.specs.Machine.{Answer, Machine, Moves, done, refused, put_by, PutsFile, LeavesFiles, most_streams}
use Rattle.hs_script.specs.Machine as move
use Rattle.hs_tool.specs.declared.session.streams.Streams.{Streams}
use Rattle.hs_tool.specs.ExpandWords.{word_of_fault}
use Rattle.hs_tool.specs.Expanding.{AddsExpanded, Expands, added, unexpanded, Hinders, is_open, is_full}
use Rattle.hs_tool.specs.OpenStreams.{stream_at, count_of, PutsStream, AreStreamsOf, Follows, FollowsFile, is_untold, is_missing, is_saved, has_bytes, IsAt, kept, Performs, RunsBasis, Tracks}
use Rattle.hs_tool.proofs.OpenLemmas.{IsStepped, follows-none, follows-some, performs-by, puts-same, leaves-all}
use Rattle.hs_tool.proofs.WrittenLemmas.{each_by}

-- ---- a save

-- the files with another one at this name
file_at : (List ℕ → File) → List ℕ → File → List ℕ → File
file_at files file x name = if bytes_eq name file then x else files name

at_here : (files : List ℕ → File) (file : List ℕ) (x : File) → file_at files file x file ≡ x
unfolding file_at
at_here files file x = ap (λ t. if t then x else files file) ((bytes_eq-Decides file file).1 refl)

at_other : (files : List ℕ → File) (file : List ℕ) (x : File) (name : List ℕ) → name ≢ file → file_at files file x name ≡ files name
unfolding file_at
at_other files file x name apart = by_test (bytes_eq name file) refl
  where
    by_test : (t : Bool) → bytes_eq name file ≡ t → (if bytes_eq name file then x else files name) ≡ files name
    by_test true e = absurd (apart ((bytes_eq-Decides name file).0 e))
    by_test false e = ap (λ t. if t then x else files name) e

same_name : (name file : List ℕ) → (name ≡ file) ⊎ (name ≢ file)
same_name name file = by_test (bytes_eq name file) refl
  where
    by_test : (t : Bool) → bytes_eq name file ≡ t → (name ≡ file) ⊎ (name ≢ file)
    by_test true e = inl ((bytes_eq-Decides name file).0 e)
    by_test false e = inr (λ same. cc (e, (bytes_eq-Decides name file).1 same))

-- what a stream is saved as
saved_as : Known → List ℕ → File
saved_as (Of h) bytes = Saved h
saved_as (Foreign region) bytes = Bytes bytes

-- and what is told of it
put_on : File → File → File
put_on Untold x = Untold
put_on Missing x = x
put_on (Saved h) x = x
put_on (Bytes b) x = x

puts-on : {basis : Basis} (s : Known) (before x : File) → Keeps basis s x → Puts basis s before (put_on before x)
unfolding put_on
puts-on s Untold x keeps = bases.puts_untold
puts-on s Missing x keeps = bases.puts_told (λ e. cc e) keeps
puts-on s (Saved h) x keeps = bases.puts_told (λ e. cc e) keeps
puts-on s (Bytes b) x keeps = bases.puts_told (λ e. cc e) keeps

-- the state file by the digest of the basis
module _ {db : Compiled} {basis : Basis} (is : RunsBasis db basis) {bytes region : List ℕ} where
  pub by_basis : IsSaved db bytes region → IsStateFile bytes basis.digest region
  by_basis saved = subst (λ d. IsStateFile bytes d region) (sym is.digest) saved

  pub by_database : IsStateFile bytes basis.digest region → IsSaved db bytes region
  by_database saved = subst (λ d. IsStateFile bytes d region) is.digest saved

keeps-saved : {db : Compiled} {basis : Basis} → RunsBasis db basis → (s : Known) (stream : Stream) (bytes : List ℕ) → Follows basis (Some s) (Some stream) → IsSaved db bytes (region_of stream) → Keeps basis s (saved_as s bytes)
unfolding saved_as
keeps-saved is (Of h) stream bytes f saved = bases.keeps_history
keeps-saved {basis = basis} is (Foreign region) stream bytes f saved =
    bases.keeps_region (subst (λ r. IsStateFile bytes basis.digest r) f.0 (by_basis is saved))

follows-saved : {db : Compiled} {basis : Basis} → RunsBasis db basis → (s : Known) (stream : Stream) (bytes : List ℕ) → Follows basis (Some s) (Some stream) → IsSaved db bytes (region_of stream) → FollowsFile basis (saved_as s bytes) (holds bytes)
unfolding saved_as
follows-saved is (Of h) stream bytes f saved =
    is_saved (record {
      bytes = f.behind.bytes;
      told = f.told;
      is_told = f.is_told;
      region = region_of stream;
      saved = by_basis is saved;
      is_region = f.behind.region;
    })
follows-saved is (Foreign region) stream bytes f saved = has_bytes

follows-put : {basis : Basis} (x : File) (bytes : List ℕ) (before : File) (t : Told) → FollowsFile basis x (holds bytes) → FollowsFile basis before t → FollowsFile basis (put_on before x) (told_put t bytes)
unfolding put_on
follows-put x bytes _ _ f is_untold = is_untold
follows-put x bytes _ _ f is_missing = f
follows-put x bytes _ _ f (is_saved saved) = f
follows-put x bytes _ _ f has_bytes = f

untold-all : {basis : Basis} (t : Told) → t ≡ untold → FollowsFile basis Untold t
untold-all {basis} t e = subst (FollowsFile basis Untold) (sym e) is_untold

save-refused : (i : Option Known) (name file : List ℕ) (w : Word) → put_by i (Save name file) (Some (No verb.Save w)) ≡ None
save-refused None name file w = refl
save-refused (Some s) name file w = refl

pub performs-save_unknown : {db : Compiled} {streams : Streams} {told : List ℕ → Told} (name file : List ℕ) → stream_at streams name ≡ None → Performs db (kept streams told) (kept streams told) (Save name file ∷ []) (refused verb.Save word.Unknown ∷ [])
performs-save_unknown {db} {streams} {told} name file unknown =
    performs-by {old = kept streams told} {now = kept streams told} (Save name file) (refused verb.Save word.Unknown) None (puts-same streams name None unknown)
    (λ basis m is tracks.
    let none = follows-none basis (m.stream name) (subst (λ s. Follows basis (m.stream name) s) unknown (tracks.each name)) in
    record {
      shown = Untold;
      h = None;
      file = m.file;
      shows = refl;
      moves = subst (λ j. Moves basis m.count Untold j (Save name file) (refused verb.Save word.Unknown) None) (sym none) move.save_unknown;
      follows = tt;
      leaves = leaves-all basis m.file (m.stream name) (Save name file) (Some (No verb.Save word.Unknown)) (save-refused (m.stream name) name file word.Unknown);
      tells = tracks.files;
    })

pub performs-save_memory : {db : Compiled} {streams : Streams} {told : List ℕ → Told} (name file : List ℕ) (stream : Stream) → stream_at streams name ≡ Some stream → Performs db (kept streams told) (kept streams told) (Save name file ∷ []) (refused verb.Save word.Memory ∷ [])
performs-save_memory {db} {streams} {told} name file stream known =
    performs-by {old = kept streams told} {now = kept streams told} (Save name file) (refused verb.Save word.Memory) (Some stream) (puts-same streams name (Some stream) known)
    (λ basis m is tracks.
    let some = follows-some basis (m.stream name) stream (subst (λ s. Follows basis (m.stream name) s) known (tracks.each name)) in
    record {
      shown = Untold;
      h = Some some.s;
      file = m.file;
      shows = refl;
      moves = subst (λ j. Moves basis m.count Untold j (Save name file) (refused verb.Save word.Memory) (Some some.s)) (sym some.is) move.save_memory;
      follows = some.follows;
      leaves = leaves-all basis m.file (m.stream name) (Save name file) (Some (No verb.Save word.Memory)) (save-refused (m.stream name) name file word.Memory);
      tells = tracks.files;
    })

-- the files behind a save
record HasPut (basis : Basis) (before : List ℕ → File) (s : Known) (name file : List ℕ) (size : ℕ) (tells : List ℕ → Told) : Type 0 where
  files : List ℕ → File
  leaves : LeavesFiles basis before files (put_by (Some s) (Save name file) (Some (Done verb.Save (Some size))))
  follows : (n : List ℕ) → FollowsFile basis (files n) (tells n)

has_put : {db : Compiled} {basis : Basis} → RunsBasis db basis → (before : List ℕ → File) (s : Known) (stream : Stream) (name file bytes : List ℕ) (size : ℕ) (told tells : List ℕ → Told) → Follows basis (Some s) (Some stream) → IsSaved db bytes (region_of stream) → ((n : List ℕ) → FollowsFile basis (before n) (told n)) → PutsOrHides told tells file bytes → HasPut basis before s name file size tells
has_put {basis = basis} is before s stream name file bytes size told tells f saved tracks (inl puts) =
    record {
      files = files;
      leaves =
          inl (record {
            here = subst (Puts basis s (before file)) (sym here) (puts-on s (before file) (saved_as s bytes) (keeps-saved is s stream bytes f saved));
            others = λ n apart. at_other before file x n apart;
          });
      follows = follows;
    }
  where
    x : File
    x = put_on (before file) (saved_as s bytes)

    files : List ℕ → File
    files = file_at before file x

    here : files file ≡ x
    here = at_here before file x

    follows_here : FollowsFile basis (files file) (tells file)
    follows_here =
        subst (λ y. FollowsFile basis y (tells file)) (sym here)
        (subst (FollowsFile basis x) (sym puts.file) (follows-put (saved_as s bytes) bytes (before file) (told file) (follows-saved is s stream bytes f saved) (tracks file)))

    follows : (n : List ℕ) → FollowsFile basis (files n) (tells n)
    follows n =
        elim (same_name n file) [
          | inl same ↦ subst (λ k. FollowsFile basis (files k) (tells k)) (sym same) follows_here
          | inr apart ↦
              subst (λ y. FollowsFile basis y (tells n)) (sym (at_other before file x n apart))
              (subst (FollowsFile basis (before n)) (sym (puts.others n apart)) (tracks n))
        ]
has_put is before s stream name file bytes size told tells f saved tracks (inr hides) = record {
  files = λ n. Untold;
  leaves = inr (λ n. refl);
  follows = λ n. untold-all (tells n) (hides n);
}

-- a database has the size that the machine goes by
pub saved-size : {db : Compiled} {basis : Basis} {size : ℕ} → RunsBasis db basis → size ≡ packed_size (packing_of db) + 42 → size ≡ state_size basis
saved-size {db} {basis} is told =
    let same = sizes-once basis.plan (packed_size (packing_of db)) basis.size (packings-sized (packing_of db) basis.plan is.is_database.packing) is.is_basis.size in
    omega (arith, told, same)

pub performs-saved : {db : Compiled} {streams : Streams} {told tells : List ℕ → Told} (name file bytes : List ℕ) (size : ℕ) (stream : Stream) → stream_at streams name ≡ Some stream → IsSaved db bytes (region_of stream) → ((basis : Basis) → RunsBasis db basis → size ≡ state_size basis) → PutsOrHides told tells file bytes → Performs db (kept streams told) (kept streams tells) (Save name file ∷ []) (done verb.Save [] (Some size) ∷ [])
performs-saved {db} {streams} {told} {tells} name file bytes size stream known saved sized puts =
    performs-by {old = kept streams told} {now = kept streams tells} (Save name file) (done verb.Save [] (Some size)) (Some stream) (puts-same streams name (Some stream) known) stepped
  where
    stepped : (basis : Basis) (m : Machine) → RunsBasis db basis → Tracks basis m (kept streams told) → IsStepped basis m (Save name file) (done verb.Save [] (Some size)) (Some stream) tells
    stepped basis m is tracks =
        let some = follows-some basis (m.stream name) stream (subst (λ s. Follows basis (m.stream name) s) known (tracks.each name)) in
        let put : HasPut basis m.file some.s name file size tells = has_put is m.file some.s stream name file bytes size told tells some.follows saved tracks.files puts in
        let all : size ≡ state_size basis = sized basis is in
        record {
          shown = Untold;
          h = Some some.s;
          file = put.files;
          shows = refl;
          moves =
              subst (λ j. Moves basis m.count Untold j (Save name file) (done verb.Save [] (Some size)) (Some some.s)) (sym some.is)
              (subst (λ n. Moves basis m.count Untold (Some some.s) (Save name file) (done verb.Save [] (Some n)) (Some some.s)) (sym all) move.saved);
          follows = some.follows;
          leaves = subst (λ i. LeavesFiles basis m.file put.files (put_by i (Save name file) (Some (Done verb.Save (Some size))))) (sym some.is) put.leaves;
          tells = put.follows;
        }

-- ---- what an expansion is shown

-- more bytes than any number
long_bytes : (n : ℕ) → (bytes : List ℕ) × (n < length bytes)
long_bytes n = (replicate (suc n) 0, omega (arith, length-replicate {A = ℕ} (suc n) 0))

-- a file that is missing, where it is told
shows-missing : {basis : Basis} (f : File) (t : Told) → FollowsFile basis f t → IsMissing t → Shows f Missing
shows-missing _ _ is_untold missing = anything
shows-missing _ _ is_missing missing = as_told
shows-missing _ _ (is_saved {h = h} {bytes = b} saved) missing = absurd missing
shows-missing _ _ (has_bytes {bytes = b}) missing = absurd missing

-- a state file of the database is short
saved-short : {db : Compiled} {basis : Basis} {bytes h : List ℕ} → RunsBasis db basis → IsSavedBy basis bytes h → length bytes ≤ most_state
saved-short {basis = basis} {bytes = bytes} is saved =
    let one = states_are_one bytes basis.digest basis.digest saved.region saved.region saved.saved saved.saved in
    let small = is.is_database.small in
    let few = kept-no-larger basis.plan (length saved.region) (record { forms = saved.is_region.forms; are = saved.is_region.are; size_is = saved.is_region.len }) in
    omega (arith, one.long, few, is.is_database.size, small)

-- what is shown, and refused by this word
pub record IsRefusedAs (basis : Basis) (f : File) (w : Word) : Type 0 where
  pub shown : File
  pub shows : Shows f shown
  pub refuses : Refuses basis shown w

-- a file that is too long
refused-long : {db : Compiled} {basis : Basis} → RunsBasis db basis → (f : File) (t : Told) → FollowsFile basis f t → IsLonger t most_state → IsRefusedAs basis f word.Form
refused-long is _ _ is_untold longer =
    let long = long_bytes most_state in
    record { shown = Bytes long.0; shows = anything; refuses = bases.bad_bytes (bases.bad_length long.1) }
refused-long is _ _ is_missing longer = absurd longer
refused-long is _ _ (is_saved {h = h} {bytes = b} saved) longer = let short = saved-short is saved in absurd (omega (arith, longer, short))
refused-long is _ _ (has_bytes {bytes = b}) longer = record { shown = Bytes b; shows = as_told; refuses = bases.bad_bytes (bases.bad_length longer) }

-- ---- what an expansion gives

-- the stream that is made of what is shown
record IsGiven (basis : Basis) (f : File) (stream : Stream) : Type 0 where
  shown : File
  shows : Shows f shown
  s : Known
  gives : Gives basis shown s
  follows : Follows basis (Some s) (Some stream)

module _ {db : Compiled} {basis : Basis} (is : RunsBasis db basis) (bytes : List ℕ) (stream : Stream) (short : length bytes ≤ most_state) (expanded : IsExpanded db bytes stream) where
  file : IsStateFile bytes basis.digest (region_of stream)
  file = by_basis is expanded.saved

  well : IsWellKept basis.plan (region_of stream)
  well =
      (kept-exact db basis.plan is.is_database (region_of stream)
      (each_by (λ b small. omega (arith, small)) (region_of stream) expanded.saved.is.region.bytes)).0 expanded.fits.region

  accepted : IsAcceptedFile basis bytes (region_of stream)
  accepted = record { short = short; file = file; well = well }

  -- of a stream's state file it has the region
  at-saved : (h : List ℕ) → IsSavedBy basis bytes h → IsKeptRegion basis.plan h (region_of stream)
  at-saved h saved =
      subst (IsKeptRegion basis.plan h) ((states_are_one bytes basis.digest basis.digest saved.region (region_of stream) saved.saved file).regions) saved.is_region

  follows-at : (h : List ℕ) → IsSavedBy basis bytes h → IsAt basis h stream
  follows-at h saved = record { behind = record { bytes = saved.bytes; region = at-saved h saved }; told = saved.told; is_told = saved.is_told }

  by_origin : (f : File) → Shows f (Bytes bytes) → (o : Option (List ℕ)) → basis.origin bytes ≡ o → IsGiven basis f stream
  by_origin f shows (Some h) e =
      let saved = is.is_basis.origins bytes h e in
      record { shown = Bytes bytes; shows = shows; s = Of h; gives = bases.gives_traced e accepted (at-saved h saved); follows = follows-at h saved }
  by_origin f shows None e =
      record { shown = Bytes bytes; shows = shows; s = Foreign (region_of stream); gives = bases.gives_foreign e accepted; follows = (refl, well) }

  given-of : (f : File) (t : Told) → FollowsFile basis f t → IsFile t bytes → IsGiven basis f stream
  given-of _ _ is_untold whole = by_origin Untold anything (basis.origin bytes) refl
  given-of _ _ is_missing whole = absurd whole
  given-of _ _ (is_saved {h = h} {bytes = b} saved) whole =
      let own : IsSavedBy basis bytes h = subst (λ c. IsSavedBy basis c h) whole saved in
      record { shown = Saved h; shows = as_told; s = Of h; gives = bases.gives_saved; follows = follows-at h own }
  given-of _ _ (has_bytes {bytes = b}) whole = by_origin (Bytes b) (subst (λ c. Shows (Bytes b) (Bytes c)) whole as_told) (basis.origin bytes) refl

-- ---- why an expansion is refused

-- memory is wanted, or what is shown is refused by the word of the fault
data IsRefusedBy (basis : Basis) (f : File) (e : ExpandFault) : Type 0 where
  wants_memory : e ≡ fault.Memory → IsRefusedBy basis f e
  is_refused : IsRefusedAs basis f (word_of_fault e) → IsRefusedBy basis f e

module _ {db : Compiled} {basis : Basis} (is : RunsBasis db basis) (bytes : List ℕ) (short : length bytes ≤ most_state) where
  -- a region that a fault is told of isn't well formed
  never-well : (at : ℕ) (region : List ℕ) → IsSaved db bytes region → IsExpandFaultOf db bytes (fault.Form at) → IsWellKept basis.plan region → ⊥
  never-well at region saved form good =
      let taken = saved-taken db bytes region ((kept-exact db basis.plan is.is_database region good.bytes).1 good) saved in
      let e : fault.Form at ≡ fault.Memory = taken.free (fault.Form at) form in
      cc e

  shown-bytes : (f : File) → Shows f (Bytes bytes) → (e : ExpandFault) → IsExpandFaultOf db bytes e → IsRefusedBy basis f e
  shown-bytes f shows (fault.Form at) (saving.outer place) =
      is_refused (record { shown = Bytes bytes; shows = shows; refuses = bases.bad_bytes (bases.bad_form (λ state form. place.no_code state form.is form.whole)) })
  shown-bytes f shows (fault.Form at) (saving.size region saved apart e) =
      is_refused (record {
        shown = Bytes bytes;
        shows = shows;
        refuses = bases.bad_bytes (bases.bad_region region short (by_basis is saved) (never-well at region saved (saving.size region saved apart e)));
      })
  shown-bytes f shows (fault.Form at) (saving.field region place saved sized breaks e) =
      is_refused (record {
        shown = Bytes bytes;
        shows = shows;
        refuses = bases.bad_bytes (bases.bad_region region short (by_basis is saved) (never-well at region saved (saving.field region place saved sized breaks e)));
      })
  shown-bytes f shows (fault.Version version) other =
      is_refused (record { shown = Bytes bytes; shows = shows; refuses = bases.bad_bytes (bases.other_version version short other) })
  shown-bytes f shows fault.OtherDatabase other =
      is_refused (record {
        shown = Bytes bytes;
        shows = shows;
        refuses =
            bases.bad_bytes (bases.other_digest short
            (record { state = other.state; form = other.form; same = other.same; other = λ e. other.other (e ∙ is.digest) }));
      })
  shown-bytes f shows fault.Memory free = wants_memory refl

  refused-of : (f : File) (t : Told) → FollowsFile basis f t → IsFile t bytes → (e : ExpandFault) → IsExpandFaultOf db bytes e → IsRefusedBy basis f e
  refused-of _ _ is_untold whole e why = shown-bytes Untold anything e why
  refused-of _ _ is_missing whole e why = absurd whole
  refused-of _ _ (is_saved {h = h} {bytes = b} saved) whole e why =
      let own : IsSavedBy basis bytes h = subst (λ c. IsSavedBy basis c h) whole saved in
      let behind : IsBehind basis.plan h own.region = record { bytes = own.bytes; region = own.is_region } in
      let taken = histories-taken db basis.plan h bytes own.region is.is_database behind (by_database is own.saved) in
      wants_memory (taken.free e why)
  refused-of _ _ (has_bytes {bytes = b}) whole e why = shown-bytes (Bytes b) (subst (λ c. Shows (Bytes b) (Bytes c)) whole as_told) e why

-- ---- the command

-- an expansion puts no file
expand-put : (i : Option Known) (name file : List ℕ) (reply : Option Reply) → put_by i (Expand name file) reply ≡ None
expand-put None name _ reply = refl
expand-put (Some s) name _ reply = refl

-- of a name that isn't open
performs-unexpanded : {db : Compiled} {old now : Streams} {told : List ℕ → Told} (name file : List ℕ) (w : Word) → stream_at old name ≡ None → PutsStream old now name None → ((basis : Basis) (m : Machine) → RunsBasis db basis → Tracks basis m (kept old told) → (shown : File) × (Shows (m.file file) shown × Moves basis m.count shown None (Expand name file) (refused verb.Expand w) None)) → Performs db (kept old told) (kept now told) (Expand name file ∷ []) (refused verb.Expand w ∷ [])
performs-unexpanded {db} {old} {now} {told} name file w unknown puts moves =
    performs-by {old = kept old told} {now = kept now told} (Expand name file) (refused verb.Expand w) None puts
    (λ basis m is tracks.
    let none = follows-none basis (m.stream name) (subst (λ s. Follows basis (m.stream name) s) unknown (tracks.each name)) in
    let (shown, (shows, moved)) = moves basis m is tracks in
    record {
      shown = shown;
      h = None;
      file = m.file;
      shows = shows;
      moves = subst (λ j. Moves basis m.count shown j (Expand name file) (refused verb.Expand w) None) (sym none) moved;
      follows = tt;
      leaves = leaves-all basis m.file (m.stream name) (Expand name file) (Some (No verb.Expand w)) (expand-put (m.stream name) name file (Some (No verb.Expand w)));
      tells = tracks.files;
    })

pub performs-hindered : {db : Compiled} {streams : Streams} {told : List ℕ → Told} (name file : List ℕ) (w : Word) → Hinders streams name w → Performs db (kept streams told) (kept streams told) (Expand name file ∷ []) (refused verb.Expand w ∷ [])
performs-hindered {db} {streams} {told} name file _ (is_open stream known) =
    performs-by {old = kept streams told} {now = kept streams told} (Expand name file) (refused verb.Expand word.Exists) (Some stream) (puts-same streams name (Some stream) known)
    (λ basis m is tracks.
    let some = follows-some basis (m.stream name) stream (subst (λ s. Follows basis (m.stream name) s) known (tracks.each name)) in
    record {
      shown = m.file file;
      h = Some some.s;
      file = m.file;
      shows = as_told;
      moves = subst (λ j. Moves basis m.count (m.file file) j (Expand name file) (refused verb.Expand word.Exists) (Some some.s)) (sym some.is) move.expand_exists;
      follows = some.follows;
      leaves = leaves-all basis m.file (m.stream name) (Expand name file) (Some (No verb.Expand word.Exists)) (expand-put (m.stream name) name file (Some (No verb.Expand word.Exists)));
      tells = tracks.files;
    })
performs-hindered {db} {streams} name file _ (is_full unknown full) =
    performs-unexpanded name file word.Full unknown (puts-same streams name None unknown)
    (λ basis m is tracks. (m.file file, (as_told, move.expand_full (subst (λ n. most_streams ≤ n) (sym tracks.counted) full))))

pub performs-expand_memory : {db : Compiled} {old now : Streams} {told : List ℕ → Told} (name file : List ℕ) → stream_at old name ≡ None → PutsStream old now name None → Performs db (kept old told) (kept now told) (Expand name file ∷ []) (refused verb.Expand word.Memory ∷ [])
performs-expand_memory name file unknown puts =
    performs-unexpanded name file word.Memory unknown puts (λ basis m is tracks. (m.file file, (as_told, move.expand_memory)))

-- refused by what is shown
by_shown : {basis : Basis} {old : Streams} {told : List ℕ → Told} {m : Machine} (name file : List ℕ) (w : Word) → count_of old < most_streams → Tracks basis m (kept old told) → IsRefusedAs basis (m.file file) w → (shown : File) × (Shows (m.file file) shown × Moves basis m.count shown None (Expand name file) (refused verb.Expand w) None)
by_shown name _ w room tracks why =
    (why.shown, (why.shows, move.expand_refused (subst (λ n. n < most_streams) (sym tracks.counted) room) why.refuses))

pub performs-absent : {db : Compiled} {streams : Streams} {told : List ℕ → Told} (name file : List ℕ) → stream_at streams name ≡ None → count_of streams < most_streams → IsMissing (told file) → Performs db (kept streams told) (kept streams told) (Expand name file ∷ []) (refused verb.Expand word.Absent ∷ [])
performs-absent {db} {streams} {told} name file unknown room missing =
    performs-unexpanded name file word.Absent unknown (puts-same streams name None unknown)
    (λ basis m is tracks.
    by_shown name file word.Absent room tracks
    (record { shown = Missing; shows = shows-missing (m.file file) (told file) (tracks.files file) missing; refuses = bases.no_file }))

pub performs-long : {db : Compiled} {streams : Streams} {told : List ℕ → Told} (name file : List ℕ) → stream_at streams name ≡ None → count_of streams < most_streams → IsLonger (told file) most_state → Performs db (kept streams told) (kept streams told) (Expand name file ∷ []) (refused verb.Expand word.Form ∷ [])
performs-long {db} {streams} {told} name file unknown room longer =
    performs-unexpanded name file word.Form unknown (puts-same streams name None unknown)
    (λ basis m is tracks. by_shown name file word.Form room tracks (refused-long is (m.file file) (told file) (tracks.files file) longer))

pub performs-expand : {db : Compiled} {old now : Streams} {told : List ℕ → Told} (name file bytes : List ℕ) (reply : Reply) → stream_at old name ≡ None → count_of old < most_streams → IsFile (told file) bytes → length bytes ≤ most_state → Expands db old now name bytes reply → Performs db (kept old told) (kept now told) (Expand name file ∷ []) (record { reports = []; reply = Some reply } ∷ [])
performs-expand {db} {old} {now} {told} name file bytes _ unknown room whole short (added adds) =
    performs-by {old = kept old told} {now = kept now told} (Expand name file) (done verb.Expand [] None) (Some adds.stream) adds.puts stepped
  where
    stepped : (basis : Basis) (m : Machine) → RunsBasis db basis → Tracks basis m (kept old told) → IsStepped basis m (Expand name file) (done verb.Expand [] None) (Some adds.stream) told
    stepped basis m is tracks =
        let none = follows-none basis (m.stream name) (subst (λ s. Follows basis (m.stream name) s) unknown (tracks.each name)) in
        let given : IsGiven basis (m.file file) adds.stream = given-of is bytes adds.stream short adds.expanded (m.file file) (told file) (tracks.files file) whole in
        record {
          shown = given.shown;
          h = Some given.s;
          file = m.file;
          shows = given.shows;
          moves =
              subst (λ j. Moves basis m.count given.shown j (Expand name file) (done verb.Expand [] None) (Some given.s)) (sym none)
              (move.expanded (subst (λ n. n < most_streams) (sym tracks.counted) room) given.gives);
          follows = given.follows;
          leaves = leaves-all basis m.file (m.stream name) (Expand name file) (Some (Done verb.Expand None)) (expand-put (m.stream name) name file (Some (Done verb.Expand None)));
          tells = tracks.files;
        }
performs-expand {db} {old} {now} {told} name file bytes _ unknown room whole short (unexpanded e why puts) =
    performs-unexpanded name file (word_of_fault e) unknown puts
    (λ basis m is tracks. by_why (refused-of is bytes short (m.file file) (told file) (tracks.files file) whole e why) m refl tracks)
  where
    by_why : {basis : Basis} {f : File} → IsRefusedBy basis f e → (m : Machine) → m.file file ≡ f → Tracks basis m (kept old told) → (shown : File) × (Shows (m.file file) shown × Moves basis m.count shown None (Expand name file) (refused verb.Expand (word_of_fault e)) None)
    by_why {basis} (wants_memory is) m same tracks =
        (m.file file, (as_told, subst (λ x. Moves basis m.count (m.file file) None (Expand name file) (refused verb.Expand (word_of_fault x)) None) (sym is) move.expand_memory))
    by_why {basis} (is_refused own) m same tracks = by_shown name file (word_of_fault e) room tracks (subst (λ g. IsRefusedAs basis g (word_of_fault e)) (sym same) own)

-- ---- names of files

byte-ascii : (b : ℕ) → IsNameByte b → b < 128
byte-ascii b (inl h) = let most = h.1 in omega (arith, most)
byte-ascii b (inr (inl h)) = let most = h.1 in omega (arith, most)
byte-ascii b (inr (inr (inl h))) = let most = h.1 in omega (arith, most)
byte-ascii b (inr (inr (inr (inl e)))) = omega (arith, e)
byte-ascii b (inr (inr (inr (inr (inl e))))) = omega (arith, e)
byte-ascii b (inr (inr (inr (inr (inr e))))) = omega (arith, e)

pub name-ascii : (file : List ℕ) → Each IsNameByte file → IsAscii file
name-ascii [] each = IsAscii-nil
name-ascii (b ∷ file) each = IsAscii-cons b file (byte-ascii b each.0) (name-ascii file each.1)

-- a store that tells what it told
pub kept_told : {db : Compiled} {old now : Streams} {told tells : List ℕ → Told} {actions : List Action} {answers : List Answer} → tells ≡ told → Performs db (kept old told) (kept now told) actions answers → Performs db (kept old told) (kept now tells) actions answers
kept_told {db} {old} {now} {told} {tells} {actions} {answers} same performs =
    subst (λ t. Performs db (kept old told) (kept now t) actions answers) (sym same) performs
