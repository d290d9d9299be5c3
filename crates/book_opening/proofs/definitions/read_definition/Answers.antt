use Rattle.api_model.specs.Definition.{document, text, stated}
use Rattle.book_rules.specs.Good.{is_stated}
use Rattle.book_opening.proofs.Reading.{read_is}
use Rattle.book_opening.proofs.definitions.read_definition.Goals as goal

pub returns-in-0 : goal.returns-in-0
unfolding is_stated
returns-in-0 c =
    let same = c.as_bytes.ensures.value in
    let definition = document c.args.source.now in
    let is =
    read_is definition (stated definition) _ c.read.result c.share.result (rw same at c.read.ensures.value) (rw same at c.read.ensures.read) (rw same at c.read.ensures.refused)
    c.share.ensures.api c.share.ensures.refused in
    rw c.in-0.is is

pub returns-in-1 : goal.returns-in-1
unfolding is_stated
returns-in-1 c =
    let definition = text c.args.source.now in
    let is =
    read_is definition (stated definition) _ c.text.result c.share-in-1.result c.text.ensures.value c.text.ensures.read c.text.ensures.refused c.share-in-1.ensures.api
    c.share-in-1.ensures.refused in
    rw c.in-1.is is
