-- Unpacked frames.
use Rattle.puffin_frames.specs.declared.frame_data.unpacked.UnpackedFrameData.{UnpackedFrameData}
use Rattle.puffin_frames.specs.Frame.Streams.{Streams, shared_streams}

-- the streams of an unpacked frame, by their threads
abbrev pub streams_held : UnpackedFrameData → Streams
streams_held frame = shared_streams frame.thread_streams.entries
