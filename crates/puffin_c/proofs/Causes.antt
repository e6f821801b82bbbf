-- Why calls are refused: the header names each cause.
use Rattle.std.proofs.Common.{◌≡◌, ◌≢◌, ◌⊎◌, ◌<◌, ◌++◌, ℕ, ℤ, zero, suc, List, [], ◌∷◌, inl, inr, refl, ap, arith, Bool, true, false}
use Rattle.std.specs.Prelude.{Option, Some, None, Result, Ok, Err, IfErr, if◌then◌else◌, drop}
use Rattle.puffin_data.specs.Part.{◌>>=◌}
use Rattle.puffin_data.specs.Device.{FailsAt}
use Rattle.puffin_data.specs.Text.Lengths.{length_at}
use Rattle.puffin_data.specs.Walk.{region, IsFault}
use Rattle.puffin_data.specs.Walk.Reading.{reading, sized_reading, unless_fault, IsFaultIn}
use Rattle.puffin_data.specs.declared.data.form.Form.{Form}
use Rattle.puffin_data.specs.declared.data.form.Form.TheVariants.{Short, Long}
use Rattle.puffin_data.specs.declared.error.Error.{Error}
use Rattle.puffin_data.specs.declared.error.Error.TheVariants.{PrematureEnd, InvalidStream, ScopeNeverEnded, MissingId, Memory, TooDeep, TooLarge}
use Rattle.puffin_data.specs.declared.file_error.FileError.{FileError}
use Rattle.puffin_data.specs.declared.file_error.FileError.TheVariants as file
use Rattle.puffin_threads.specs.Thread.ThreadKey.{ThreadKey}
use Rattle.puffin_frames.specs.Frame.Contents.{packet_fields, streams_in_fields}
use Rattle.puffin_frames.specs.Packet.Front.{next_at}
use Rattle.puffin_frames.specs.Packet.Letters.{from_letter}
use Rattle.puffin_frames.specs.Packet.Parts.{kind_from, meta_part_at, streams_part_at, details_part_at, legacy_part_at}
use Rattle.puffin_frames.specs.Packet.Stored.{PacketFields, Stored, packed, legacy}
use Rattle.puffin_frames.specs.Packet.Versions.{packet_at, packet_if_read, as_stored}
use Rattle.puffin_merge.specs.Merge.FrameBytes.{FrameBytes}
use Rattle.puffin_merge.specs.Merge.Occurrences.{Occurrence}
use Rattle.puffin_merge.specs.Merge.Refusals.{IsFrameRefusal, faulty, refused, in_frame, at_end, IsMergeRefusal}
use Rattle.puffin_report.specs.Summary.{all_bytes_in}
use Rattle.puffin_view.specs.View.File.{frame_stored, with_ids, frames_from, frames_at, most_packets, begins_file, file_at, FramesReading, FailsToRead}
use Rattle.puffin_view.specs.View.ViewedFrames.{fields_of}
use Rattle.puffin_view.specs.View.FrameFile.{frame_with_ids, frame_at}
use Rattle.puffin_c.specs.declared.count.PuffinCount.{PuffinCount}
use Rattle.puffin_c.specs.declared.fault.Fault.{Fault}
use Rattle.puffin_c.specs.declared.fault.Fault.TheVariants as fault
use Rattle.puffin_c.specs.declared.merged.PuffinMergedList.{PuffinMergedList}
use Rattle.puffin_c.specs.declared.profiler.Profiler.{Profiler}
use Rattle.puffin_c.specs.declared.scopes.PuffinScopeList.{PuffinScopeList}
use Rattle.puffin_c.specs.declared.streams.PuffinStreamList.{PuffinStreamList}
use Rattle.puffin_c.specs.declared.threads.PuffinFileThreadList.{PuffinFileThreadList}
use Rattle.puffin_c.specs.Counting.{IsCounted}
use Rattle.puffin_c.specs.Faults.{answer_name, file_fault}
use Rattle.puffin_c.specs.Lists.{ListsScopes, ListsStreams}
use Rattle.puffin_c.specs.Merges.{MergesFile, MergesView}
use Rattle.puffin_c.specs.Profiling.{TakesOwn}
use Rattle.puffin_c.specs.Reporting.{IsChecked}
use Rattle.puffin_c.specs.Threads.{ListsThreads}
use Rattle.puffin_c.proofs.Codes.{Answer}

-- ---- of a stream

abbrev pub IsCause : Error → Type 0
IsCause e = (e ≡ PrematureEnd) ⊎ (e ≡ InvalidStream) ⊎ (e ≡ ScopeNeverEnded)

length_causes : (form : Form) (bytes : List ℕ) → IfErr (length_at form bytes) IsCause
unfolding length_at
length_causes form [] = inl refl
length_causes Short (b ∷ rest) = tt
length_causes Long (b ∷ rest) = grind arith

sized_causes : (form : Form) (part : List ℕ) → IfErr (sized_reading form part) IsCause
unfolding sized_reading
sized_causes form part = grind arith

unless : {A B : Type 0} (r : Result A Error) (after : Result B Error) →
    IfErr r IsCause →
    IfErr after IsCause →
    IfErr (unless_fault r after) IsCause
unless (Ok a) after h k = k
unless (Err fault) after h k = h

causes : (form : Form) (part : List ℕ) → IfErr (reading form part) IsCause
unfolding reading
causes form part = grind (arith, unless, length_causes, sized_causes)

cause_in : (form : Form) (part : List ℕ) (e : Error) → IsFaultIn form part e → IsCause e
cause_in form part e (inl is) = let h = causes form part in grind arith
cause_in form part e (inr none) = grind arith

pub cause_of : (form : Form) (bytes : List ℕ) (e : Error) → IsFault form bytes e → IsCause e
cause_of form bytes e (place, first) = cause_in form (region bytes place first.end) e first.stands

-- ---- of a merge

abbrev pub IsMergeCause : Error → Type 0
IsMergeCause e = IsCause e ⊎ (e ≡ TooDeep) ⊎ (e ≡ TooLarge)

frame_cause : (done : List Occurrence) (origin : ℤ) (form : Form) (bytes : List ℕ) (tries : ℕ) (e : Error) →
    IsFrameRefusal done origin form bytes tries e →
    IsMergeCause e
frame_cause done origin form bytes tries e (faulty {place = place} {fault = fault} first sees accepted) =
    inl (cause_of form bytes fault (place, first))
frame_cause done origin form bytes tries e (refused earlier later s sees accepted (inl deep) before) = inr (inl deep.1)
frame_cause done origin form bytes tries e (refused earlier later s sees accepted (inr large) before) = inr (inr large.2)

pub merge_cause : (frames : List FrameBytes) (e : Error) → IsMergeRefusal frames e → IsMergeCause e
merge_cause frames e (tries, in_frame earlier later frame scopes split have accepted is) = frame_cause _ _ _ _ _ _ is
merge_cause frames e (tries, at_end scopes f have accepted merge unfit) = inr (inr refl)

-- ---- of a file

-- what the header names, apart from kinds that aren't bytes
abbrev pub IsFileCause : FileError → Type 0
IsFileCause (file.UnknownKind kind) = 2 < kind
IsFileCause (file.Compressed kind) = (0 < kind) × (kind < 3)
IsFileCause (file.Refused e) = IsMergeCause e ⊎ (e ≡ MissingId)
IsFileCause other = Unit {0}

bind : {A B : Type 0} (x : Result A FileError) (f : A → Result B FileError) →
    IfErr x IsFileCause →
    ((a : A) → IfErr (f a) IsFileCause) →
    IfErr (x >>= f) IsFileCause
bind (Ok a) f h k = k a
bind (Err e) f h k = h

either : {A : Type 0} (b : Bool) (x y : Result A FileError) →
    IfErr x IsFileCause →
    IfErr y IsFileCause →
    IfErr (if b then x else y) IsFileCause
either true x y h k = h
either false x y h k = k

stored : {A : Type 0} (form : A → Stored) (r : Result (A × List ℕ) FileError) → IfErr r IsFileCause → IfErr (as_stored form r) IsFileCause
stored form (Ok p) h = tt
stored form (Err e) h = h

metas : (bytes : List ℕ) → IfErr (meta_part_at bytes) IsFileCause
metas bytes = grind arith

kinds : (byte : ℕ) → IfErr (kind_from byte) IsFileCause
kinds byte = grind arith

streams : (version : _) (bytes : List ℕ) → IfErr (streams_part_at version bytes) IsFileCause
streams version bytes = grind (arith, kinds)

details : (version : _) (bytes : List ℕ) → IfErr (details_part_at version bytes) IsFileCause
details version bytes = grind arith

packets : (version : _) (bytes : List ℕ) → IfErr (packet_at version bytes) IsFileCause
packets version bytes =
    bind (meta_part_at bytes) _ (metas bytes)
    (λ m. bind (streams_part_at version m.1) _ (streams version m.1)
    (λ s. bind (details_part_at version s.1) _ (details version s.1) (λ d. tt)))

versions : (letter : ℕ) (version : Option _) (bytes : List ℕ) → IfErr (packet_if_read letter version bytes) IsFileCause
versions letter (Some version) bytes = packets version bytes
versions letter None bytes = grind arith

packets_stored : (letter : ℕ) (bytes : List ℕ) → IfErr (as_stored packed (packet_if_read letter (from_letter letter) bytes)) IsFileCause
packets_stored letter bytes = stored packed (packet_if_read letter (from_letter letter) bytes) (versions letter (from_letter letter) bytes)

legacies_stored : (n : ℕ) (bytes : List ℕ) → IfErr (as_stored legacy (legacy_part_at n bytes)) IsFileCause
legacies_stored n bytes = grind arith

next : (bytes : List ℕ) → IfErr (next_at bytes) IsFileCause
unfolding next_at
next bytes = grind (arith, packets_stored, legacies_stored)

ids : (s : Stored) → IfErr (with_ids s) IsFileCause
ids s = grind arith

given : (o : Option Stored) (rest : List ℕ) → IfErr (frame_with_ids o rest) IsFileCause
given o rest = grind (arith, ids)

frame : (bytes : List ℕ) → IfErr (frame_at bytes) IsFileCause
frame bytes = bind (next_at bytes) _ (next bytes) (λ n. given n.0 n.1)

from : (read : FramesReading) (o : Option Stored) (rest : List ℕ) →
    IfErr (read rest) IsFileCause →
    IfErr (frames_from read o rest) IsFileCause
from read o rest h = grind (arith, ids)

frames : (n : ℕ) (bytes : List ℕ) → IfErr (frames_at n bytes) IsFileCause
frames zero bytes = tt
frames (suc n) bytes = bind (next_at bytes) _ (next bytes) (λ m. from (frames_at n) m.0 m.1 (frames n m.1))

files : (bytes : List ℕ) → IfErr (file_at bytes) IsFileCause
files bytes = either (begins_file bytes) (frames_at most_packets (drop 4 bytes)) (Err file.NoMagic) (frames most_packets (drop 4 bytes)) tt

told : {A : Type 0} (r : Result A FileError) (e : FileError) → IfErr r IsFileCause → r ≡ Err e → IsFileCause e
told r e h is = grind arith

pub frame_fault : (e : FileError) (old new : Option (List ℕ)) → FailsAt e old new frame_at → IsFileCause e
frame_fault (file.UnknownKind k) old new f = told _ _ (frame (f.0 ++ [])) (f.2 [])
frame_fault (file.Compressed k) old new f = told _ _ (frame (f.0 ++ [])) (f.2 [])
frame_fault (file.Refused k) old new f = told _ _ (frame (f.0 ++ [])) (f.2 [])
frame_fault other old new f = grind arith

pub file_fault_cause : (e : FileError) (old new : Option (List ℕ)) → FailsToRead file_at old new e → IsFileCause e
file_fault_cause e old new f = grind (arith, told, files)

-- ---- of packed streams

pub unpacked : (c : PacketFields) → IfErr (streams_in_fields c) IsFileCause
unpacked c = grind arith

all_unpacked : (info : ThreadKey) (cs : List PacketFields) → IfErr (all_bytes_in info cs) IsFileCause
all_unpacked info [] = tt
all_unpacked info (c ∷ cs) = let first = unpacked c in let others = all_unpacked info cs in grind arith

pub packed_fault : (c : PacketFields) (e : FileError) → streams_in_fields c ≡ Err e → IsFileCause e
packed_fault c e is = told _ _ (unpacked c) is

pub packed_faults : (info : ThreadKey) (cs : List PacketFields) (e : FileError) → all_bytes_in info cs ≡ Err e → IsFileCause e
packed_faults info cs e is = told _ _ (all_unpacked info cs) is

-- ---- what calls return

-- the kind that is in a fault is a byte
abbrev pub HasByte : Answer → Type 0
HasByte answer = (kind : ℕ) → answer ≡ Err (fault.File (file.UnknownKind kind)) → kind < 256

file_named : (e : FileError) (f : Fault) → f ≡ file_fault e → IsFileCause e → HasByte (Err f) → answer_name (Err f) ≢ []
file_named e f is cause byte =
    let least =
    λ (kind : ℕ) (same : f ≡ fault.File (file.UnknownKind kind)). byte kind (ap (λ (x : Fault). Err x) same) in
    grind arith

stream_named : (form : Form) (bytes : List ℕ) (e : Error) (f : Fault) →
    f ≡ fault.Refused e →
    (e ≡ Memory) ⊎ IsFault form bytes e →
    answer_name (Err f) ≢ []
stream_named form bytes e f is (inl memory) = grind arith
stream_named form bytes e f is (inr first) = let cause = cause_of form bytes e first in grind arith

pub count_named : (form : Form) (bytes : List ℕ) (old new : PuffinCount) (answer : Answer) →
    IsCounted form bytes old new answer →
    answer_name answer ≢ []
count_named form bytes old new (Ok x) h = grind arith
count_named form bytes old new (Err f) (same, e, is, why) = stream_named form bytes e f is why

pub scopes_named : (form : Form) (bytes : List ℕ) (old new : PuffinScopeList) (answer : Answer) →
    ListsScopes form bytes old new answer →
    answer_name answer ≢ []
scopes_named form bytes old new (Ok x) h = grind arith
scopes_named form bytes old new (Err f) (same, e, is, why) = stream_named form bytes e f is why

pub own_named : (p : Option Profiler) (key : ThreadKey) (form : Form) (bytes : List ℕ) (after : Option Profiler) (answer : Answer) →
    TakesOwn p key form bytes after answer →
    answer_name answer ≢ []
own_named p key form bytes after (Ok x) h = grind arith
own_named p key form bytes after (Err f) (same, inl closed) = grind arith
own_named p key form bytes after (Err f) (same, inr (q, held, inl none)) = grind arith
own_named p key form bytes after (Err f) (same, inr (q, held, inr (text, e, is, inl memory))) = grind arith
own_named p key form bytes after (Err f) (same, inr (q, held, inr (text, e, is, inr (inl first)))) =
    stream_named form bytes e f is (inr first)
own_named p key form bytes after (Err f) (same, inr (q, held, inr (text, e, is, inr (inr refusal)))) = grind arith

pub check_named : (bytes : List ℕ) (n offset read : ℕ) (answer : Answer) →
    IsChecked bytes n offset read answer →
    HasByte answer →
    answer_name answer ≢ []
check_named bytes n offset read (Ok x) h byte = grind arith
check_named bytes n offset read (Err f) (left, e, is, not_io, fails, before, to) byte =
    file_named e f is (file_fault_cause e (Some bytes) (Some left) fails) byte

pub streams_named : (file : List ℕ) (offset : ℕ) (old new : PuffinStreamList) (answer : Answer) →
    ListsStreams file offset old new answer →
    HasByte answer →
    answer_name answer ≢ []
streams_named file offset old new (Ok x) h byte = grind arith
streams_named file offset old new (Err f) (same, inl memory) byte = grind arith
streams_named file offset old new (Err f) (same, inr (inl (inl past))) byte = grind arith
streams_named file offset old new (Err f) (same, inr (inl (inr (inl letters)))) byte = grind arith
streams_named file offset old new (Err f) (same, inr (inl (inr (inr (rest, left, e, at, is, not_io, fails))))) byte =
    file_named e f is (frame_fault e (Some rest) left fails) byte
streams_named file offset old new (Err f) (same, inr (inr (end, there, e, at, why, is))) byte =
    file_named e f is (packed_fault (packet_fields there) e why) byte

pub threads_named : (file : List ℕ) (old new : PuffinFileThreadList) (answer : Answer) →
    ListsThreads file old new answer →
    HasByte answer →
    answer_name answer ≢ []
threads_named file old new (Ok x) h byte = grind arith
threads_named file old new (Err f) (same, inl memory) byte = grind arith
threads_named file old new (Err f) (same, inr (inl (e, is, (left, before, opened, s, has, are, why)))) byte =
    file_named e f is (packed_fault (fields_of (frame_stored s)) e why) byte
threads_named file old new (Err f) (same, inr (inr (left, e, is, not_io, fails))) byte =
    file_named e f is (file_fault_cause e (Some file) left fails) byte

pub file_merge_named : (file : List ℕ) (info : ThreadKey) (old new : PuffinMergedList) (answer : Answer) →
    MergesFile file info old new answer →
    HasByte answer →
    answer_name answer ≢ []
file_merge_named file info old new (Ok x) h byte = grind arith
file_merge_named file info old new (Err f) (same, inl none) byte = grind arith
file_merge_named file info old new (Err f) (same, inr (text, e, is, (left, inl fails))) byte =
    file_named e f is (file_fault_cause e (Some file) left fails) byte
file_merge_named file info old new (Err f) (same, inr (text, e, is, (left, inr (read, took, inl why)))) byte =
    file_named e f is (packed_faults info _ e why) byte
file_merge_named file info old new (Err f)
    (same, inr (text, e, is, (left, inr (read, took, inr (merged, cause, opened, same_cause, other, why))))) byte =
    let known = merge_cause merged cause why in file_named e f is (grind arith) byte

pub view_merge_named : (held : Option Profiler) (n : ℕ) (info : ThreadKey) (old new : PuffinMergedList) (answer : Answer) →
    MergesView held n info old new answer →
    HasByte answer →
    answer_name answer ≢ []
view_merge_named held n info old new (Ok x) h byte = grind arith
view_merge_named held n info old new (Err f) (same, inl closed) byte = grind arith
view_merge_named held n info old new (Err f) (same, inr (p, some, inl none)) byte = grind arith
view_merge_named held n info old new (Err f) (same, inr (p, some, inr (text, inl memory))) byte = grind arith
view_merge_named held n info old new (Err f) (same, inr (p, some, inr (text, inr (inl (e, is, why))))) byte =
    file_named e f is (packed_faults info _ e why) byte
view_merge_named held n info old new (Err f) (same, inr (p, some, inr (text, inr (inr (merged, e, is, opened, why))))) byte =
    let known = merge_cause merged e why in grind arith
