-- How the streams of a packet are compressed, and the byte that stores it.
use Rattle.std.specs.Prelude.{◌≡◌, ◌==◌, ℕ, Bool, true, false, Option, Some, None, unwrap_or, if◌then◌else◌, refl}
use Rattle.std.specs.Coded.{Coded, code_by, coded_ℕ}
use Rattle.puffin_frames.specs.declared.frame_data.kind.Kind.{Kind}
use Rattle.puffin_frames.specs.declared.frame_data.kind.Kind.TheVariants.{Uncompressed, Lz4, Zstd}

-- the byte of a kind
abbrev pub to_byte : Kind → ℕ
to_byte Uncompressed = 0
to_byte Lz4 = 1
to_byte Zstd = 2

-- the kind with this byte
abbrev pub from_byte : ℕ → Option Kind
from_byte byte =
    if byte == 0 then Some Uncompressed
    else if byte == 1 then Some Lz4
    else if byte == 2 then Some Zstd
    else None

-- whether packed bytes of this kind are the layout of the streams
abbrev pub is_uncompressed : Kind → Bool
is_uncompressed Uncompressed = true
is_uncompressed Lz4 = false
is_uncompressed Zstd = false

-- a kind is read back from its byte
pub from_byte-reads_back : (kind : Kind) → from_byte (to_byte kind) ≡ Some kind
from_byte-reads_back Uncompressed = refl
from_byte-reads_back Lz4 = refl
from_byte-reads_back Zstd = refl

-- the same where a byte of no kind stands for `Uncompressed`
pub kind_again : (kind : Kind) → unwrap_or (from_byte (to_byte kind)) Uncompressed ≡ kind
kind_again Uncompressed = refl
kind_again Lz4 = refl
kind_again Zstd = refl

-- a kind as its byte, and back
abbrev pub kind_code : Coded Kind
kind_code = code_by ℕ coded_ℕ to_byte (λ byte. unwrap_or (from_byte byte) Uncompressed) kind_again
