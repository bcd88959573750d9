mod FigureLaws
