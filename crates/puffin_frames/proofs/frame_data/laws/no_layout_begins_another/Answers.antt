-- What has a reader that gives back each layout is begun by no other layout.
use Rattle.puffin_data.proofs.lemmas.Readers.{begins_no_other}
use Rattle.puffin_frames.specs.Packet.Structs.{meta_layout, IsMeta, meta_at, key_layout, IsThreadKey, key_at, facts_layout, AreStreamFacts, facts_at, streams_layout, AreStreams, streams_at, details_layout, AreDetails, details_at, legacy_layout, IsLegacy, legacy_at}
use Rattle.puffin_frames.proofs.Structs.{meta_reader, thread_reader, facts_reader, streams_reader, details_reader, legacy_reader}
use Rattle.puffin_frames.proofs.frame_data.laws.no_layout_begins_another.Goals as goal

pub returns-clause-metas : goal.returns-clause-metas
returns-clause-metas c a b x y = begins_no_other IsMeta meta_layout meta_at meta_reader a b x y

pub returns-clause-threads : goal.returns-clause-threads
returns-clause-threads c a b x y = begins_no_other IsThreadKey key_layout key_at thread_reader a b x y

pub returns-clause-infos : goal.returns-clause-infos
returns-clause-infos c packed a b x y =
    begins_no_other (AreStreamFacts packed) (facts_layout packed) (facts_at packed) (facts_reader packed) a b x y

pub returns-clause-streams : goal.returns-clause-streams
returns-clause-streams c packed a b x y =
    begins_no_other (AreStreams packed) (streams_layout packed) (streams_at packed) (streams_reader packed) a b x y

pub returns-clause-details : goal.returns-clause-details
returns-clause-details c a b x y = begins_no_other AreDetails details_layout details_at details_reader a b x y

pub returns-clause-legacy : goal.returns-clause-legacy
returns-clause-legacy c a b x y = begins_no_other IsLegacy legacy_layout legacy_at legacy_reader a b x y
