-- What a program reads in pieces, and the bytes of it that it hasn't read yet.
use Rattle.std.specs.Prelude.{ℕ, List}
use Rattle.puffin_c.specs.declared.unread.Piece.{Piece}
use Rattle.puffin_c.specs.declared.unread.Piece.TheVariants.{File, Packet}
use Rattle.puffin_c.specs.declared.unread.Pieces.{Pieces}

abbrev pub unread_in : Piece → Pieces → List ℕ
unread_in File pieces = pieces.file
unread_in Packet pieces = pieces.packet

abbrev pub pieces_with : Piece → Pieces → List ℕ → Pieces
pieces_with File pieces bytes = record pieces { file = bytes }
pieces_with Packet pieces bytes = record pieces { packet = bytes }
