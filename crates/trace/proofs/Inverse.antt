-- Reading a file and writing a content are inverse (W-202): the accepted files of bytes are the files that hold the contents
-- that can be written. Assumes nothing.
use mathlib.Core.Path.{◌≡◌, ◌∙◌}
use mathlib.Core.List.{List}
use Prim.Native.Nat.{ℕ}
use Rattle.std.specs.Prelude.{Ok}
use Rattle.trace.specs.declared.Header.{Header}
use Rattle.trace.specs.Trace.{event_count, reading}
use Rattle.trace.specs.Content.{Content, Bytes, content, written, checked, Narrow}
use Rattle.trace.proofs.Accepted.{accepted_use, headed_use}
use Rattle.trace.proofs.ReadWritten.{file_written, content_checked, events_narrow}
use Rattle.trace.proofs.WrittenRead.{written_read}

module _ (file : List ℕ) (bytes : Bytes file) (h : Header) (accepted : reading file ≡ Ok h) where
  -- reading, then writing
  pub written_content : written (content file) ≡ file
  written_content =
      let facts = accepted_use file h accepted in
      file_written file bytes (headed_use file facts.0) facts.1

  -- what an accepted file holds can be written
  pub content_writable : (checked (content file) ≡ Ok h) × Narrow (content file).events
  unfolding content
  content_writable =
      let facts = accepted_use file h accepted in
      (content_checked file bytes facts.0 facts.1 ∙ accepted, events_narrow file bytes 0 (event_count file))

module _ (c : Content) (h : Header) (passed : checked c ≡ Ok h) (narrow : Narrow c.events) where
  -- writing, then reading
  pub written_accepted : reading (written c) ≡ Ok h
  written_accepted = (written_read c h passed narrow).0

  pub content_written : content (written c) ≡ c
  content_written = (written_read c h passed narrow).1
