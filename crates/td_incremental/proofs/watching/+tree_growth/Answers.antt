use Rattle.td_incremental.proofs.Deciding.{told_binary, told_extend, told_nest, told_project, told_rename, told_unnest, told_where}
use Rattle.td_incremental.proofs.watching.+tree_growth.Goals as goal

pub returns-in-Project : goal.returns-in-Project
returns-in-Project t c = told_project c.args.catalogue.now c.args.relvar c.args.tree.now c.in-Project.a c.get.result.now _ _ c.in-Project.is c.get.ensures c.tree_growth.ensures

pub returns-in-Rename : goal.returns-in-Rename
returns-in-Rename t c = told_rename c.args.catalogue.now c.args.relvar c.args.tree.now c.in-Rename.a c.get-in-Rename.result.now _ _ c.in-Rename.is c.get-in-Rename.ensures c.tree_growth-in-Rename.ensures

pub returns-in-Unnest : goal.returns-in-Unnest
returns-in-Unnest t c = told_unnest c.args.catalogue.now c.args.relvar c.args.tree.now _ c.in-Unnest.a c.get-in-Unnest.result.now _ _ c.in-Unnest.is c.get-in-Unnest.ensures c.tree_growth-in-Unnest.ensures

pub returns-in_ok-made-in-Nest : goal.returns-in_ok-made-in-Nest
returns-in_ok-made-in-Nest t c = told_nest c.args.catalogue.now c.args.relvar c.args.tree.now c.in-Nest.nesting c.in-Nest.a c.get-in-Nest.result.now _ _ c.in_ok-made-in-Nest.made c.of_nest.result c.in-Nest.is c.get-in-Nest.ensures c.in_ok-made-in-Nest.ensures c.of_nest.ensures

pub returns-in_ok-unread-in-Where : goal.returns-in_ok-unread-in-Where
returns-in_ok-unread-in-Where t c =
    told_where c.args.catalogue.now c.args.relvar c.args.tree.now c.in-Where.a c.in-Where.condition c.get-in-Where.result.now c.get-in-Where-2.result.now c.in_ok-made-in-Where.made c.if_unread.result c.in_ok-unread-in-Where.unread
    c.in-Where.is c.get-in-Where.ensures c.get-in-Where-2.ensures c.in_ok-made-in-Where.ensures c.in_ok-unread-in-Where.ensures c.if_unread.ensures

pub returns-in_ok-unread-in-Extend : goal.returns-in_ok-unread-in-Extend
returns-in_ok-unread-in-Extend t c =
    told_extend c.args.catalogue.now c.args.relvar c.args.tree.now c.in-Extend.a c.get-in-Extend.result.now c.in-Extend.items c.as_slice.result.now c.in_ok-made-in-Extend.made c.if_unread-in-Extend.result c.in_ok-unread-in-Extend.unread
    c.in-Extend.is c.get-in-Extend.ensures c.as_slice.ensures c.in_ok-made-in-Extend.ensures c.in_ok-unread-in-Extend.ensures c.if_unread-in-Extend.ensures

pub returns-in_ok-right-in-Binary : goal.returns-in_ok-right-in-Binary
returns-in_ok-right-in-Binary t c =
    told_binary c.args.catalogue.now c.args.relvar c.args.tree.now c.in-Binary.operator c.in-Binary.a c.in-Binary.b c.get-in-Binary.result.now c.get-in-Binary-2.result.now c.in_ok-left-in-Binary.left c.in_ok-right-in-Binary.right c.of_both.result
    c.in-Binary.is c.get-in-Binary.ensures c.get-in-Binary-2.ensures c.in_ok-left-in-Binary.ensures c.in_ok-right-in-Binary.ensures c.of_both.ensures
