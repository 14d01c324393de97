use Rattle.range_server.proofs.HandleLemmas.{abort_handled, commit_handled, put_handled, read_handled, reader_handled, refresh_handled, resolve_handled, writer_handled}
use Rattle.range_server.specs.Scene.{scene}
use Rattle.range_server.proofs.standing.Standing.handle.Goals as goal

pub returns-in-Read : goal.returns-in-Read
returns-in-Read c =
    rw (c.in-Read.is, ← c.as_slice.ensures)
    (read_handled (scene c.args.self.now c.args.log.now c.args.now) c.requires.beside c.in-Read.attempt c.in-Read.range c.in-Read.span c.in-Read.at c.in-Read.limit c.as_slice.result.now
    c.read.result c.read.new.self c.read.ensures.answer c.read.ensures.server)

pub returns-in-Refresh : goal.returns-in-Refresh
returns-in-Refresh c =
    rw (c.in-Refresh.is, ← c.as_slice-in-Refresh.ensures)
    (refresh_handled (scene c.args.self.now c.args.log.now c.args.now) c.requires.beside c.in-Refresh.attempt c.in-Refresh.range c.in-Refresh.span c.in-Refresh.from c.in-Refresh.at c.as_slice-in-Refresh.result.now
    c.refresh.result c.refresh.new.self c.refresh.ensures.answer c.refresh.ensures.server)

pub returns-in_ok-reply-in-Put : goal.returns-in_ok-reply-in-Put
returns-in_ok-reply-in-Put c =
    rw (c.in-Put.is, ← c.as_slice-known.ensures)
    (put_handled (scene c.args.self.now c.args.log.now c.args.now) c.in_ok-reply-in-Put.reply c.put.new.log c.put.new.self c.in-Put.attempt c.in-Put.range c.in-Put.start c.in-Put.anchor c.in-Put.at c.in-Put.key c.in-Put.value
    c.as_slice-known.result.now c.in_ok-reply-in-Put.ensures)

pub returns-in_ok-reply-in-PushReader : goal.returns-in_ok-reply-in-PushReader
returns-in_ok-reply-in-PushReader c =
    rw c.in-PushReader.is
    (reader_handled (scene c.args.self.now c.args.log.now c.args.now) c.in_ok-reply-in-PushReader.reply c.push_reader.new.log c.push_reader.new.self c.in-PushReader.attempt c.in-PushReader.range c.in-PushReader.other c.in-PushReader.at c.in_ok-reply-in-PushReader.ensures)

pub returns-in_ok-reply-in-PushWriter : goal.returns-in_ok-reply-in-PushWriter
returns-in_ok-reply-in-PushWriter c =
    rw c.in-PushWriter.is
    (writer_handled (scene c.args.self.now c.args.log.now c.args.now) c.in_ok-reply-in-PushWriter.reply c.push_writer.new.log c.push_writer.new.self c.in-PushWriter.attempt c.in-PushWriter.range c.in-PushWriter.other c.in-PushWriter.start c.in-PushWriter.other_start c.in_ok-reply-in-PushWriter.ensures)

pub returns-in_ok-reply-in-Commit : goal.returns-in_ok-reply-in-Commit
returns-in_ok-reply-in-Commit c =
    rw c.in-Commit.is
    (commit_handled (scene c.args.self.now c.args.log.now c.args.now) c.in_ok-reply-in-Commit.reply c.commit.new.log c.commit.new.self c.in-Commit.attempt c.in-Commit.range c.in-Commit.at c.in_ok-reply-in-Commit.ensures)

pub returns-in_ok-reply-in-Abort : goal.returns-in_ok-reply-in-Abort
returns-in_ok-reply-in-Abort c =
    rw c.in-Abort.is
    (abort_handled (scene c.args.self.now c.args.log.now c.args.now) c.in_ok-reply-in-Abort.reply c.abort.new.log c.abort.new.self c.in-Abort.attempt c.in-Abort.range c.in_ok-reply-in-Abort.ensures)

pub returns-in_ok-resolve-in-Resolve : goal.returns-in_ok-resolve-in-Resolve
returns-in_ok-resolve-in-Resolve c =
    rw (c.in-Resolve.is, ← c.as_slice-in-Resolve.ensures)
    (resolve_handled (scene c.args.self.now c.args.log.now c.args.now) c.resolve.new.log c.resolve.new.self c.in-Resolve.attempt c.in-Resolve.range c.as_slice-in-Resolve.result.now c.in-Resolve.fate c.in_ok-resolve-in-Resolve.ensures)
