-- Each struct has a reader that gives back its layouts, and takes nothing else.
use Rattle.puffin_data.proofs.lemmas.Readers.{reads_layouts}
use Rattle.puffin_frames.specs.Packet.Structs.{meta_layout, IsMeta, meta_at, key_layout, IsThreadKey, key_at, facts_layout, AreStreamFacts, facts_at, streams_layout, AreStreams, streams_at, details_layout, AreDetails, details_at, legacy_layout, IsLegacy, legacy_at}
use Rattle.puffin_frames.proofs.Structs.{meta_reader, thread_reader, facts_reader, streams_reader, details_reader, legacy_reader}
use Rattle.puffin_frames.proofs.frame_data.laws.only_layouts_are_read.Goals as goal

pub returns-clause-metas : goal.returns-clause-metas
returns-clause-metas c bytes value rest = reads_layouts IsMeta meta_layout meta_at meta_reader bytes value rest

pub returns-clause-threads : goal.returns-clause-threads
returns-clause-threads c bytes value rest = reads_layouts IsThreadKey key_layout key_at thread_reader bytes value rest

pub returns-clause-infos : goal.returns-clause-infos
returns-clause-infos c packed bytes value rest =
    reads_layouts (AreStreamFacts packed) (facts_layout packed) (facts_at packed) (facts_reader packed) bytes value rest

pub returns-clause-streams : goal.returns-clause-streams
returns-clause-streams c packed bytes value rest =
    reads_layouts (AreStreams packed) (streams_layout packed) (streams_at packed) (streams_reader packed) bytes value rest

pub returns-clause-details : goal.returns-clause-details
returns-clause-details c bytes value rest = reads_layouts AreDetails details_layout details_at details_reader bytes value rest

pub returns-clause-legacy : goal.returns-clause-legacy
returns-clause-legacy c bytes value rest = reads_layouts IsLegacy legacy_layout legacy_at legacy_reader bytes value rest
