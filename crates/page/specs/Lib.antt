-- A page: what a reader must believe (`Page`), how one text is put behind the other (`Then`), and how a form is put (`Form`).
pub mod Page
pub mod Then
pub mod Form
